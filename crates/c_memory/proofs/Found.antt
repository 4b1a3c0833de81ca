-- What the rows find, after an object begins, changes or ends.
use Rattle.std.proofs.Common.{◌≡◌, ℕ, zero, suc, ◌<◌, Bool, true, false, cond, eqb, List}
use Rattle.std.proofs.Common.{[], ◌∷◌, ◌++◌, length, refl, ap, sym, ◌∙◌, arith, eq-eqb, Option}
use Rattle.std.proofs.Common.{None}
use Rattle.std.specs.List.{remove}
use Rattle.std.proofs.lemmas.Bool.{eqb-true, ne_eqb}
use Rattle.c_memory.specs.declared.objects.Row.{Row}
use Rattle.c_memory.specs.Object.{CObject}
use Rattle.c_memory.specs.Rows.{serial_at, key_at, AreRising, IsAt, IsAbsent, find_in}

-- keys differ
abbrev pub AreApart : List Row → Type 0
AreApart rows = (i j : ℕ) → i < j → j < length rows → key_at rows i ≡ key_at rows j → ⊥

cond_twice : {A : Type 0} (t : Bool) (a b y : A) → cond t a y ≡ cond t a (cond t b y)
cond_twice true a b y = refl
cond_twice false a b y = refl

cond_swap : {A : Type 0} (t u : Bool) (a b y : A) → (t ≡ true → u ≡ true → ⊥)
    → cond t a (cond u b y) ≡ cond u b (cond t a y)
cond_swap true true a b y both = absurd (both refl refl)
cond_swap true false a b y both = refl
cond_swap false true a b y both = refl
cond_swap false false a b y both = refl

cond_gone : {A : Type 0} (t : Bool) (none a y : A) → (t ≡ true → y ≡ none)
    → y ≡ cond t none (cond t a y)
cond_gone true none a y gone = gone refl
cond_gone false none a y gone = refl

rising-tail : (row : Row) (rows : List Row) → AreRising (row ∷ rows) → AreRising rows
rising-tail row rows rising =
    λ i j before inside. rising (suc i) (suc j) (omega arith) (omega arith)

apart-tail : (row : Row) (rows : List Row) → AreApart (row ∷ rows) → AreApart rows
apart-tail row rows apart = λ i j before inside. apart (suc i) (suc j) (omega arith) (omega arith)

-- a later number isn't the first one
later : (row : Row) (rows : List Row) (serial i : ℕ) → AreRising (row ∷ rows) → i < length rows
    → eqb row.serial serial ≡ true → eqb (serial_at rows i) serial ≡ true → ⊥
later row rows serial i rising inside one two =
    omega (arith, rising 0 (suc i) (omega arith) (omega arith), eqb-true _ _ one, eqb-true _ _ two)

module _ (at : ℕ → Option CObject) where
  pub find-absent : (rows : List Row) (serial : ℕ) → IsAbsent rows serial
      → find_in rows at serial ≡ None
  find-absent [] serial absent = refl
  find-absent (row ∷ rows) serial absent =
      let rest : IsAbsent rows serial = λ i inside. absent (suc i) (omega arith) in
      let other : eqb row.serial serial ≡ false = ne_eqb _ _ (absent 0 (omega arith)) in
      ap (λ b. cond b (at row.key) (find_in rows at serial)) other ∙ find-absent rows serial rest

  pub find-at : (rows : List Row) (serial i : ℕ) → AreRising rows → IsAt rows serial i
      → find_in rows at serial ≡ at (key_at rows i)
  find-at [] serial i rising here = absurd (omega (arith, here.in_range))
  find-at (row ∷ rows) serial zero rising here =
      ap (λ b. cond b (at row.key) (find_in rows at serial)) (eq-eqb _ _ here.has_serial)
  find-at (row ∷ rows) serial (suc i) rising here =
      let less = rising 0 (suc i) (omega arith) here.in_range in
      let other : eqb row.serial serial ≡ false =
      ne_eqb _ _ (λ same. omega (arith, less, here.has_serial, same)) in
      let there : IsAt rows serial i =
      record { in_range = omega (arith, here.in_range); has_serial = here.has_serial } in
      ap (λ b. cond b (at row.key) (find_in rows at serial)) other
      ∙ find-at rows serial i (rising-tail row rows rising) there

module _ (at after : ℕ → Option CObject) where
  -- the same under each key of the rows
  pub find-same : (rows : List Row) (serial : ℕ)
      → ((i : ℕ) → i < length rows → after (key_at rows i) ≡ at (key_at rows i))
      → find_in rows after serial ≡ find_in rows at serial
  find-same [] serial same = refl
  find-same (row ∷ rows) serial same =
      ap (λ x. cond (eqb row.serial serial) x (find_in rows after serial)) (same 0 (omega arith))
      ∙ ap (λ x. cond (eqb row.serial serial) (at row.key) x)
      (find-same rows serial (λ i inside. same (suc i) (omega arith)))

  -- one key changes
  pub find-changed : (rows : List Row) (serial i : ℕ) → AreRising rows → AreApart rows
      → i < length rows
      → ((k : ℕ) → (k ≡ key_at rows i → ⊥) → after k ≡ at k)
      → find_in rows after serial ≡ cond (eqb (serial_at rows i) serial) (after (key_at rows i))
      (find_in rows at serial)
  find-changed [] serial i rising apart inside others = absurd (omega arith)
  find-changed (row ∷ rows) serial zero rising apart inside others =
      let rest =
      find-same rows serial
      (λ j within. others (key_at rows j) (λ same. apart 0 (suc j) (omega arith)
      (omega arith) (sym same)))
      in
      ap (λ x. cond (eqb row.serial serial) (after row.key) x) rest
      ∙ cond_twice (eqb row.serial serial) (after row.key) (at row.key) (find_in rows at serial)
  find-changed (row ∷ rows) serial (suc i) rising apart inside others =
      let rest =
      find-changed rows serial i (rising-tail row rows rising) (apart-tail row rows apart)
      (omega arith) others in
      ap (λ x. cond (eqb row.serial serial) x (find_in rows after serial))
      (others row.key (apart 0 (suc i) (omega arith) inside))
      ∙ ap (λ x. cond (eqb row.serial serial) (at row.key) x) rest
      ∙ cond_swap (eqb row.serial serial) _ (at row.key) _ _
      (later row rows serial i rising (omega arith))

  -- one row goes
  pub find-removed : (rows : List Row) (serial i : ℕ) → AreRising rows → AreApart rows
      → i < length rows
      → ((k : ℕ) → (k ≡ key_at rows i → ⊥) → after k ≡ at k)
      → find_in (remove rows i) after serial ≡ cond (eqb (serial_at rows i) serial) None
      (find_in rows at serial)
  find-removed [] serial i rising apart inside others = absurd (omega arith)
  find-removed (row ∷ rows) serial zero rising apart inside others =
      let rest =
      find-same rows serial
      (λ j within. others (key_at rows j) (λ same. apart 0 (suc j) (omega arith)
      (omega arith) (sym same)))
      in
      let gone = λ (here : eqb row.serial serial ≡ true).
      find-absent at rows serial
      (λ j within same. later row rows serial j rising within here (eq-eqb _ _ same)) in
      rest ∙ cond_gone (eqb row.serial serial) None (at row.key) (find_in rows at serial) gone
  find-removed (row ∷ rows) serial (suc i) rising apart inside others =
      let rest =
      find-removed rows serial i (rising-tail row rows rising) (apart-tail row rows apart)
      (omega arith) others in
      ap (λ x. cond (eqb row.serial serial) x (find_in (remove rows i) after serial))
      (others row.key (apart 0 (suc i) (omega arith) inside))
      ∙ ap (λ x. cond (eqb row.serial serial) (at row.key) x) rest
      ∙ cond_swap (eqb row.serial serial) _ (at row.key) _ _
      (later row rows serial i rising (omega arith))

  -- one row comes
  pub find-pushed : (rows : List Row) (row : Row) (serial : ℕ)
      → ((i : ℕ) → i < length rows → serial_at rows i < row.serial)
      → ((i : ℕ) → i < length rows → after (key_at rows i) ≡ at (key_at rows i))
      → find_in (rows ++ row ∷ []) after serial ≡ cond (eqb row.serial serial) (after row.key)
      (find_in rows at serial)
  find-pushed [] row serial less same = refl
  find-pushed (first ∷ rows) row serial less same =
      let rest =
      find-pushed rows row serial (λ i inside. less (suc i) (omega arith))
      (λ i inside. same (suc i) (omega arith)) in
      ap (λ x. cond (eqb first.serial serial) x (find_in (rows ++ row ∷ []) after serial))
      (same 0 (omega arith))
      ∙ ap (λ x. cond (eqb first.serial serial) (at first.key) x) rest
      ∙ cond_swap (eqb first.serial serial) (eqb row.serial serial) (at first.key) _ _
      (λ one two. omega (arith, less 0 (omega arith), eqb-true _ _ one, eqb-true _ _ two))
