-- What a parser's or a lexer's fault says of a text.
use Rattle.std.proofs.Common.{◌≡◌, ◌≤◌, ◌<◌, ◌+◌, ℕ, zero, suc, Bool, true, false, List, [], ◌∷◌, Option, Some, None, length, slice_get, if◌then◌else◌, map, take, replicate, IsSomeAnd, nat_lt, refl, sym, ap, subst, ◌∙◌, arith}
use Rattle.std.proofs.lemmas.Bool.Decides.{nat_tests}
use Rattle.std.proofs.lemmas.List.{take_all, length-map, length-append, length-replicate}
use Rattle.dpi_grammar.specs.Faults.{with_end, Begins, is_late, opener, IsViable, IsShallow, tokens_of, IsRefused, IsTooMuch, IsTooDeep}
use Rattle.dpi_grammar.specs.Told.{Told}
use Rattle.dpi_ports.specs.Told.{Contents, Holds, HoldsMore}
use Rattle.dpirun.specs.Answer.{IsRefusedAs}
use Rattle.dpirun.specs.Command.{language_of}
use Rattle.dpirun.specs.Faults.{IsRefusal}
use Rattle.dpirun.specs.declared.command.Language.{Language}
use Rattle.dpirun.specs.declared.command.Language.TheVariants.{SystemVerilog, C}
use Rattle.dpirun.specs.declared.refusal.Code.TheVariants.{TooLong}

-- no token is refused behind the end
module _ {T X : Type 0} (told : X → Told T) (limit : ℕ) (ts : List T) where
  ends : length (with_end ts) ≡ length ts + 1
  ends = length-append (map Some ts) (None ∷ []) ∙ ap (λ n. n + 1) (length-map ts Some)

  same_front : (at : ℕ) → length ts < at → take at (with_end ts) ≡ take (at + 1) (with_end ts)
  same_front at far =
      take_all at (with_end ts) (omega (arith, ends, far))
      ∙ sym (take_all (at + 1) (with_end ts) (omega (arith, ends, far)))

  opener_within : (late : T → Bool) (n : ℕ) → opener late ts n ≤ n
  opener_within late zero = omega arith
  opener_within late (suc n) = by (is_late late (slice_get ts n))
    where
      by : (b : Bool) → (if b then n else suc n) ≤ suc n
      by true = omega arith
      by false = omega arith

  by_cases : (at : ℕ) → (length ts < at → ⊥) → at ≤ length ts
  by_cases at never = by (nat_lt (length ts) at) refl
    where
      by : (b : Bool) → nat_lt (length ts) at ≡ b → at ≤ length ts
      by true far = absurd (never (grind (arith, nat_tests)))
      by false near = grind (arith, nat_tests)

  pub refused_within : (at : ℕ) → IsRefused told limit ts at → at ≤ length ts
  refused_within at r = by_cases at (λ far.
      let v = r.before in
      r.refused (v.0, v.1.0, subst (λ l. Begins l (with_end (tokens_of told v.0))) (same_front at far) v.2))

  pub too_much_within : (at : ℕ) → IsTooMuch told limit ts at → at ≤ length ts
  too_much_within at r = by_cases at (λ far. r.refused (subst (λ l. IsViable told (IsShallow told limit) l) (same_front at far) r.before))

  pub too_deep_within : (late : T → Bool) (at : ℕ) → IsTooDeep told late limit ts at → at ≤ length ts
  too_deep_within late at r =
      let shown : r.shows ≤ length ts = too_much_within r.shows r.too_much in
      let before : opener late ts r.shows ≤ r.shows = opener_within late r.shows in
      omega (arith, shown, before, r.opens)

-- a text past the limit is refused in either language
long_is_refused : (language : Language) (text : List ℕ) → 1048576 < length text → IsRefusal language text TooLong 0
long_is_refused SystemVerilog text long = (long, refl)
long_is_refused C text long = (long, refl)

-- so is a file whose source has such a text, or may have it
long_text : (told : Option Contents) (file text : List ℕ) → 1048576 < length text → Holds told file text → IsRefusedAs told file 1 1 TooLong
long_text told file text long held = record {
  text = text;
  held = held;
  place = 0;
  refusal = long_is_refused (language_of file) text long;
  line_is = refl;
  column_is = refl;
}

long_file : (contents : Contents) (file : List ℕ) (o : Option (List ℕ)) → contents file ≡ o → IsSomeAnd o (λ bytes. 1048576 < length bytes)
    → IsRefusedAs (Some contents) file 1 1 TooLong
long_file contents file (Some bytes) is long = long_text (Some contents) file bytes long is
long_file contents file None is long = absurd long

long_untold : (file : List ℕ) (n : ℕ) → 1048576 < n → IsRefusedAs None file 1 1 TooLong
long_untold file n long = long_text None file (replicate n 0) (rw length-replicate long) tt

pub too_long_is : (told : Option Contents) (file : List ℕ) → HoldsMore told file 1048576 → IsRefusedAs told file 1 1 TooLong
too_long_is (Some contents) file more = long_file contents file (contents file) refl more
too_long_is None file more = long_untold file 1048577 (omega arith)
