-- One scope inside others that parameters fill.
use Rattle.std.proofs.Common.{◌≡◌, ℕ, List, [], ◌∷◌, ◌++◌, refl, sym, ap, ◌∙◌, Option, Some, None, Result, Ok, Err}
use Rattle.dpi_ports.specs.declared.no_memory.NoMemory.{NoMemory}
use Rattle.dpi_rules.specs.declared.violation.Violation.{Violation}
use Rattle.dpi_rules.specs.Least.{noted}
use Rattle.dpi_rules.proofs.Firsts.{noted-append}
use Rattle.dpi_rules.proofs.Noting.{noted_both}
use Rattle.c_names.specs.declared.entry.Entry.{Entry}
use Rattle.c_names.specs.Names.{Names, or_else}
use Rattle.c_names.specs.Scopes.{find}
use Rattle.c_walk.specs.Sight.{Sight, Walks, Breaks, after, stays, both, nothing, IsFilled, Fills}

-- ---- a name in one scope inside others

none_behind : (e : Option Entry) → e ≡ or_else e None
none_behind None = refl
none_behind (Some e) = refl

assoc : (a b c : Option Entry) → or_else (or_else a b) c ≡ or_else a (or_else b c)
assoc None b c = refl
assoc (Some a) b c = refl

pub find_inside : (outer : List Names) (inner : Names) (name : List ℕ) → find (outer ++ inner ∷ []) name ≡ or_else (inner name) (find outer name)
find_inside [] inner name = none_behind (inner name)
find_inside (o ∷ os) inner name = ap (λ e. or_else e (o name)) (find_inside os inner name) ∙ assoc (inner name) (find os name) (o name)

-- ---- parts

abbrev in_scope : List Names → Names → Sight
in_scope outer inner = record { outer = outer; inner = inner }

-- what a part breaks is noted, and then another part fills
pub filled_behind : (b : Breaks) (w : Walks) (outer : List Names) (inner inner' : Names) (found found' found'' : Option Violation) (r : Result (Unit {0}) NoMemory) → found' ≡ noted found (b (outer ++ inner ∷ [])) → Fills w outer inner found' r inner' found'' → Fills (both (stays b) w) outer inner found r inner' found''
filled_behind b w outer inner inner' found found' found'' (Ok u) n f = record {
  inner_is = f.inner_is;
  found_are = noted_both found (b (outer ++ inner ∷ [])) (w (in_scope outer inner)).found n f.found_are;
}
filled_behind b w outer inner inner' found found' found'' (Err e) n f = tt

-- ---- loops

-- The scope and what is kept so far in a loop over all parts: those left over come to the same.
pub record IsFilling (all left : Walks) (outer : List Names) (inner0 : Names) (start : Option Violation) (inner : Names) (found : Option Violation) : Type 0 where
  pub inner_same : (all (in_scope outer inner0)).inner ≡ (left (in_scope outer inner)).inner
  pub found_same : noted start (all (in_scope outer inner0)).found ≡ noted found (left (in_scope outer inner)).found

pub filling_more : {all left : Walks} (v more : Walks) {outer : List Names} {inner0 inner inner' : Names} {start found found' : Option Violation} → left ≡ both v more → IsFilled v (in_scope outer inner) found inner' found' → IsFilling all left outer inner0 start inner found → IsFilling all more outer inner0 start inner' found'
filling_more {all} {left} v more {outer} {inner0} {inner} {inner'} {start} {found} {found'} split f loop =
    let s = in_scope outer inner in
    record {
      inner_same = loop.inner_same ∙ ap (λ w. (w s).inner) split ∙ ap (λ n. (more (in_scope outer n)).inner) (sym f.inner_is);
      found_same = loop.found_same ∙ ap (λ w. noted found (w s).found) split ∙ noted-append found (v s).found (more (after v s)).found ∙ ap (λ o. noted o (more (after v s)).found) (sym f.found_are) ∙ ap (λ n. noted found' (more (in_scope outer n)).found) (sym f.inner_is);
    }

pub filling_last : {all left : Walks} {outer : List Names} {inner0 inner : Names} {start found : Option Violation} → left ≡ nothing → IsFilling all left outer inner0 start inner found → IsFilled all (in_scope outer inner0) start inner found
filling_last {all} {left} {outer} {inner0} {inner} {start} {found} none loop = record {
  inner_is = sym (loop.inner_same ∙ ap (λ w. (w (in_scope outer inner)).inner) none);
  found_are = sym (loop.found_same ∙ ap (λ w. noted found (w (in_scope outer inner)).found) none);
}
