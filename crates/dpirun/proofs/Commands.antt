-- When words are a command.
use Rattle.std.proofs.Common.{◌≡◌, ◌≤◌, ℕ, Bool, true, false, ◌&&◌, List, length, map, nat_lt, refl, sym, ap, ◌∙◌, arith}
use Rattle.std.proofs.lemmas.Bool.Decides.{nat_tests}
use Rattle.std.proofs.lemmas.List.{length-map}
use Rattle.std.proofs.lemmas.List.Folds.{list_all-map}
use Rattle.std.specs.List.{list_all}
use Rattle.dpirun.specs.Command.{is_file, is_command}

-- 1 to 1,000 of them: each is a file, or not
of_count : (words : List (List ℕ)) → 1 ≤ length words → length words ≤ 1000 → list_all is_file words ≡ is_command words
of_count words some few =
    let least : nat_lt 0 (length words) ≡ true = grind (arith, nat_tests) in
    let most : nat_lt (length words) 1001 ≡ true = grind (arith, nat_tests) in
    sym (ap (λ t. (t && nat_lt (length words) 1001) && list_all is_file words) least ∙ ap (λ t. t && list_all is_file words) most)

pub is_many_files : {S : Type 0} (name_of : S → List ℕ) (items : List S) → 1 ≤ length items → length items ≤ 1000
    → list_all (λ item. is_file (name_of item)) items ≡ is_command (map name_of items)
is_many_files name_of items some few =
    sym (list_all-map is_file name_of items)
    ∙ of_count (map name_of items) (simp length-map some) (simp length-map few)

-- none, or more
other_count : (words : List (List ℕ)) → (1 ≤ length words → length words ≤ 1000 → ⊥) → false ≡ is_command words
other_count words other = sym none
  where
    none : is_command words ≡ false
    none = by (nat_lt 0 (length words)) refl (nat_lt (length words) 1001) refl
      where
        by : (a : Bool) → nat_lt 0 (length words) ≡ a → (b : Bool) → nat_lt (length words) 1001 ≡ b → is_command words ≡ false
        by false least b most = ap (λ t. (t && nat_lt (length words) 1001) && list_all is_file words) least
        by true least false most = ap (λ t. (t && nat_lt (length words) 1001) && list_all is_file words) least ∙ ap (λ t. t && list_all is_file words) most
        by true least true most = absurd (other (grind (arith, nat_tests)) (grind (arith, nat_tests)))

pub too_many_or_none : {S : Type 0} (name_of : S → List ℕ) (items : List S) → (1 ≤ length items → length items ≤ 1000 → ⊥) → false ≡ is_command (map name_of items)
too_many_or_none name_of items other = other_count (map name_of items) (λ some few. other (rw (sym (length-map items name_of)) some) (rw (sym (length-map items name_of)) few))
