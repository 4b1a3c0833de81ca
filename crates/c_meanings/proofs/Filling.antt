-- One scope inside others that parameters fill.
use Rattle.std.proofs.Common.{◌≡◌, List, [], ◌∷◌, ◌++◌, refl, sym, ap, ◌∙◌, append_assoc, Result, Ok, Err}
use Rattle.std.proofs.lemmas.List.{append-nil}
use Rattle.std.specs.Prelude.{OnOk, Option}
use Rattle.dpi_ports.specs.declared.no_memory.NoMemory.{NoMemory}
use Rattle.dpi_rules.specs.declared.violation.Violation.{Violation}
use Rattle.c_names.specs.Names.{Names}
use Rattle.c_walk.specs.Sight as walk
use Rattle.c_walk.specs.Sight.{Sight, Walks}
use Rattle.c_meanings.specs.Places.{Facts}
use Rattle.c_meanings.specs.Sight.{Tells, Says, behind, stays, brings, both, nothing, IsFilled, Fills}

abbrev in_scope : List Names → Names → Sight
in_scope outer inner = record { outer = outer; inner = inner }

-- a part says something, and then a name is in sight
pub filled_behind : (b : Says) (w : Walks) (outer : List Names) (inner inner' : Names) (list list' : Facts) (found found' : Option Violation) (r : Result (Unit {0}) NoMemory) → list' ≡ list ++ b (outer ++ inner ∷ []) → walk.Fills w outer inner found r inner' found' → Fills (both (stays b) (brings w)) outer inner list r inner' list'
filled_behind b w outer inner inner' list list' found found' (Ok u) n f = record {
  inner_is = f.inner_is;
  list_is = n ∙ ap (λ fs. list ++ fs) (sym (append-nil (b (outer ++ inner ∷ []))));
}
filled_behind b w outer inner inner' list list' found found' (Err e) n f = tt

-- The scope and the list so far in a loop over all parts: those left over come to the same.
pub record IsFilling (all left : Tells) (outer : List Names) (inner0 : Names) (start : Facts) (inner : Names) (list : Facts) : Type 0 where
  pub inner_same : (all (in_scope outer inner0)).inner ≡ (left (in_scope outer inner)).inner
  pub list_same : start ++ (all (in_scope outer inner0)).facts ≡ list ++ (left (in_scope outer inner)).facts

pub filling_more : {all left : Tells} (t more : Tells) {outer : List Names} {inner0 inner inner' : Names} {start list list' : Facts} → left ≡ both t more → IsFilled t (in_scope outer inner) list inner' list' → IsFilling all left outer inner0 start inner list → IsFilling all more outer inner0 start inner' list'
filling_more {all} {left} t more {outer} {inner0} {inner} {inner'} {start} {list} {list'} split f loop =
    let s = in_scope outer inner in
    record {
      inner_same = loop.inner_same ∙ ap (λ w. (w s).inner) split ∙ ap (λ n. (more (in_scope outer n)).inner) (sym f.inner_is);
      list_same = loop.list_same ∙ ap (λ w. list ++ (w s).facts) split ∙ sym (append_assoc list (t s).facts (more (behind t s)).facts) ∙ ap (λ l. l ++ (more (behind t s)).facts) (sym f.list_is) ∙ ap (λ n. list' ++ (more (in_scope outer n)).facts) (sym f.inner_is);
    }

pub filling_last : {all left : Tells} {outer : List Names} {inner0 inner : Names} {start list : Facts} → left ≡ nothing → IsFilling all left outer inner0 start inner list → IsFilled all (in_scope outer inner0) start inner list
filling_last {all} {left} {outer} {inner0} {inner} {start} {list} none loop = record {
  inner_is = sym (loop.inner_same ∙ ap (λ w. (w (in_scope outer inner)).inner) none);
  list_is = sym (loop.list_same ∙ ap (λ w. list ++ (w (in_scope outer inner)).facts) none ∙ append-nil list);
}
