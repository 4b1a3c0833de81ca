-- What can be said of a list of tokens is one thing: it has a tree of few levels, or one token is refused, or one opens a level too many.
use Rattle.std.proofs.Common.{◌≡◌, ℕ, zero, suc, ◌+◌, ◌≤◌, ◌<◌, Bool, List, [], ◌∷◌, ◌++◌, take, slice_get, Option, Some, None, true, false, if◌then◌else◌, refl, sym, ap, ◌∙◌, subst, arith}
use Rattle.dpi_grammar.specs.Told.{Told}
use Rattle.dpi_grammar.specs.Faults.{with_end, Begins, is_late, opener, tokens_of, IsTree, IsShallow, IsViable, IsParsed, IsRefused, IsTooMuch, IsTooDeep}

-- what begins with some tokens begins with fewer of them
begins_sooner : {A : Type 0} (k m : ℕ) (seen whole : List A) → k ≤ m → Begins (take m seen) whole → Begins (take k seen) whole
begins_sooner zero m seen whole few b = (whole, refl)
begins_sooner (suc k) zero seen whole few b = absurd (omega (arith, few))
begins_sooner (suc k) (suc m) [] whole few b = (whole, refl)
begins_sooner (suc k) (suc m) (x ∷ seen) whole few b =
    let r = begins_sooner k m seen (take m seen ++ b.0) (omega (arith, few)) (b.0, refl) in
    (r.0, b.1 ∙ ap (λ l. x ∷ l) r.1)

-- a list begins with its first tokens
begins_whole : {A : Type 0} (k : ℕ) (seen : List A) → Begins (take k seen) seen
begins_whole zero seen = (seen, refl)
begins_whole (suc k) [] = ([], refl)
begins_whole (suc k) (x ∷ seen) = let r = begins_whole k seen in (r.0, ap (λ l. x ∷ l) r.1)

same_number : (a b : ℕ) → (a < b → ⊥) → (b < a → ⊥) → a ≡ b
same_number zero zero f g = refl
same_number zero (suc b) f g = absurd (f (omega arith))
same_number (suc a) zero f g = absurd (g (omega arith))
same_number (suc a) (suc b) f g = ap suc (same_number a b (λ h. f (omega (arith, h))) (λ h. g (omega (arith, h))))

module _ {T X : Type 0} (told : X → Told T) (limit : ℕ) (ts : List T) where
  abbrev Goes : (X → Type 0) → ℕ → Type 0
  Goes Is n = IsViable told Is (take n (with_end ts))

  abbrev Few : X → Type 0
  Few = IsShallow told limit

  -- trees of few levels go on up to a token, and not with it
  record StopsAt (at : ℕ) : Type 0 where
    before : Goes Few at
    after : Goes Few (at + 1) → ⊥

  refused_stops : (at : ℕ) → IsRefused told limit ts at → StopsAt at
  refused_stops at r = record { before = r.before; after = λ v. r.refused (v.0, v.1.0, v.2) }

  too_much_stops : (at : ℕ) → IsTooMuch told limit ts at → StopsAt at
  too_much_stops at r = record { before = r.before; after = r.refused }

  not_later : (a b : ℕ) → StopsAt a → StopsAt b → a < b → ⊥
  not_later a b s r less =
      let v = r.before in
      s.after (v.0, v.1, begins_sooner (a + 1) b (with_end ts) (with_end (tokens_of told v.0)) (omega (arith, less)) v.2)

  stops_once : (a b : ℕ) → StopsAt a → StopsAt b → a ≡ b
  stops_once a b s r = same_number a b (not_later a b s r) (not_later b a r s)

  -- one token is refused
  pub one_refused : (a b : ℕ) → IsRefused told limit ts a → IsRefused told limit ts b → a ≡ b
  one_refused a b r s = stops_once a b (refused_stops a r) (refused_stops b s)

  -- one token opens a level too many
  pub one_too_deep : (late : T → Bool) (a b : ℕ) → IsTooDeep told late limit ts a → IsTooDeep told late limit ts b → a ≡ b
  one_too_deep late a b r s =
      let e = stops_once r.shows s.shows (too_much_stops r.shows r.too_much) (too_much_stops s.shows s.too_much) in
      r.opens ∙ ap (λ n. opener late ts n) e ∙ sym s.opens

  -- never both
  pub refused_or_too_deep : (late : T → Bool) (a b : ℕ) → IsRefused told limit ts a → IsTooDeep told late limit ts b → ⊥
  refused_or_too_deep late a b r s =
      let e = stops_once s.shows a (too_much_stops s.shows s.too_much) (refused_stops a r) in
      r.refused (subst (λ n. Goes (IsTree told) (n + 1)) e s.too_much.deeper)

  -- the words of a tree go on to their end
  tree_goes_on : (n : ℕ) (x : X) → IsParsed told limit ts x → Goes Few n
  tree_goes_on n x p = (x, (p.tree, p.shallow), subst (λ l. Begins (take n (with_end ts)) (with_end l)) (sym p.tokens) (begins_whole n (with_end ts)))

  -- no token of a tree of few levels is refused
  pub parsed_or_refused : (x : X) (at : ℕ) → IsParsed told limit ts x → IsRefused told limit ts at → ⊥
  parsed_or_refused x at p r = (refused_stops at r).after (tree_goes_on (at + 1) x p)

  pub parsed_or_too_deep : (late : T → Bool) (x : X) (at : ℕ) → IsParsed told limit ts x → IsTooDeep told late limit ts at → ⊥
  parsed_or_too_deep late x at p r = r.too_much.refused (tree_goes_on (r.shows + 1) x p)

  pub one_parsed : (x y : X) → IsParsed told limit ts x → IsParsed told limit ts y → x ≡ y
  one_parsed x y p q = q.only x p.tree p.tokens

-- where no token is known late, the level shows at the token that opens it
pub opener_itself : {T : Type 0} (late : T → Bool) → ((t : T) → late t ≡ false) → (ts : List T) (n : ℕ) → opener late ts n ≡ n
opener_itself late never ts zero = refl
opener_itself late never ts (suc n) = ap (λ b. if b then n else suc n) (never_late (slice_get ts n))
  where
    never_late : (o : Option _) → is_late late o ≡ false
    never_late None = refl
    never_late (Some t) = never t
