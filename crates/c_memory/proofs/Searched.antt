-- What a search by halving tells of the rows.
use Rattle.std.proofs.Common.{◌≡◌, ℕ, ◌<◌, ◌≤◌, List, length, Result, Ok, Err, ap, sym, arith}
use Rattle.std.specs.Prelude.{MatchOption}
use Rattle.std.specs.List.Sorted.{IsBinarySearchResult, IsSearchInRange, IsNonDecreasingBy}
use Rattle.std.specs.Ordering.{nat_cmp, ordering_index}
use Rattle.std.specs.Result.{result_ok}
use Rattle.std.proofs.lemmas.Cmp.{ranked}
use Rattle.std.proofs.lemmas.Bool.Decides.{nat_tests}
use Rattle.std.proofs.lemmas.List.Sorted.{IsNonDecreasingBy-from_default}
use Rattle.c_memory.specs.declared.objects.Row.{Row}
use Rattle.c_memory.specs.Rows.{serial_at, AreRising, IsAt, IsAbsent}

-- comparing each number with one rises along the rows
compared : (rows : List Row) (serial : ℕ) → AreRising rows
    → IsNonDecreasingBy (λ row. ordering_index (nat_cmp row.serial serial)) rows
compared rows serial rising =
    IsNonDecreasingBy-from_default (λ row. ordering_index (nat_cmp row.serial serial)) rows
    (record { serial = 0; key = 0 }) (λ i j before inside.
    let up : serial_at rows i ≤ serial_at rows j =
    grind (arith, rising i j, λ (same : i ≡ j). ap (serial_at rows) same) in
    grind (arith, nat_tests))

pub searched : (rows : List Row) (serial : ℕ) (r : Result ℕ ℕ) → AreRising rows
    → IsSearchInRange r (length rows)
    → IsBinarySearchResult (λ row. nat_cmp row.serial serial) rows r
    → MatchOption (result_ok r) (IsAbsent rows serial) (IsAt rows serial)
searched rows serial (Ok i) rising bound found = record {
  in_range = bound;
  has_serial = ranked _ serial _ (sym (found (record { serial = 0; key = 0 })));
}
searched rows serial (Err i) rising bound found = λ k inside same.
    let parts = found (compared rows serial rising) in
    let none : Row = record { serial = 0; key = 0 } in
    let before = λ (lt : k < i). ranked _ serial _ (sym (parts.0 k none (omega arith) lt)) in
    let after = λ (le : i ≤ k). ranked _ serial _ (sym (parts.1 k none le inside)) in
    grind (arith, before, after)
