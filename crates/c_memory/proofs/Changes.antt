-- The objects after one begins, changes or ends.
use Rattle.std.proofs.Common.{◌≡◌, ℕ, ◌+◌, ◌<◌, ◌≤◌, cond, eqb, List, [], ◌∷◌}
use Rattle.std.proofs.Common.{◌++◌, length, get_or, set, refl, ap, sym, ◌∙◌, subst, arith, eq-eqb}
use Rattle.std.proofs.Common.{inl, inr, Option, Some, None, IsSome, true, length-append}
use Rattle.std.specs.List.{remove}
use Rattle.std.proofs.lemmas.Bool.{cases_lt, cases_eq, ne_eqb}
use Rattle.std.proofs.lemmas.Grind.{common_steps}
use Rattle.std.proofs.lemmas.List.{get_or_default}
use Rattle.std.proofs.lemmas.List.Edits.{length-remove, get_or-remove_below, get_or-remove_above}
use Rattle.slab.specs.Slab.{Slab, get, Updates}
use Rattle.c_memory.specs.declared.objects.Row.{Row}
use Rattle.c_memory.specs.Object.{CObject}
use Rattle.c_memory.specs.Rows.{serial_at, key_at, IsAt, IsAbsent, find_in, numbered}
use Rattle.c_memory.specs.Rows.{IsSound}
use Rattle.c_memory.proofs.Found.{find-absent, find-at, find-changed, find-removed, find-pushed}
use Rattle.c_memory.proofs.Tables.{numbered-at, numbered-set, numbered-push}

abbrev pub objects_in : List Row → Slab CObject → ℕ → List (Option CObject)
objects_in rows slab given = numbered (find_in rows (get slab)) (given + 1)

pub not_some : IsSome {T = CObject} None → ⊥
not_some h = cc

-- where a row stood before another went
record Left (rows : List Row) (i j k : ℕ) : Type 0 where
  before : j < i → k ≡ j
  from : i ≤ j → k ≡ j + 1
  other : k ≡ i → ⊥
  in_range : k < length rows
  serials : serial_at (remove rows i) j ≡ serial_at rows k
  keys : key_at (remove rows i) j ≡ key_at rows k

left : (rows : List Row) (i j : ℕ) → i < length rows → j < length (remove rows i)
    → (k : ℕ) × Left rows i j k
left rows i j inside within = elim (cases_lt j i) [
  | inl less ↦
      let same = get_or-remove_below rows i (record { serial = 0; key = 0 }) j less inside in (
        j,
        record {
          before = λ _. refl;
          from = λ more. absurd (omega arith);
          other = λ e. omega arith;
          in_range = omega arith;
          serials = ap (λ r. r.serial) same;
          keys = ap (λ r. r.key) same;
        },
      )
  | inr more ↦
      let same = get_or-remove_above rows i (record { serial = 0; key = 0 }) j more inside in (
        j + 1,
        record {
          before = λ less. absurd (omega arith);
          from = λ _. refl;
          other = λ e. omega arith;
          in_range = omega (arith, length-remove rows i inside);
          serials = ap (λ r. r.serial) same;
          keys = ap (λ r. r.key) same;
        },
      )
]

left_rises : (i j k m n : ℕ) → j < k → (j < i → m ≡ j) → (i ≤ j → m ≡ j + 1) → (k < i → n ≡ k)
    → (i ≤ k → n ≡ k + 1) → m < n
left_rises i j k m n less a b c d = elim (cases_lt j i) [
  | inl one ↦ elim (cases_lt k i)
      [ inl two ↦ omega (arith, a one, c two) | inr two ↦ omega (arith, a one, d two) ]
  | inr one ↦ omega (arith, b one, d (omega arith))
]

push_long : (rows : List Row) (row : Row) → length (rows ++ row ∷ []) ≡ length rows + 1
push_long rows row = length-append rows (row ∷ []) ∙ refl

old_row : (rows : List Row) (row : Row) (j : ℕ) → j < length rows
    → get_or (rows ++ row ∷ []) j (record { serial = 0; key = 0 })
    ≡ get_or rows j (record { serial = 0; key = 0 })
old_row rows row j h = grind (arith, common_steps)

new_row : (rows : List Row) (row : Row) (j : ℕ) → j ≡ length rows
    → get_or (rows ++ row ∷ []) j (record { serial = 0; key = 0 }) ≡ row
new_row rows row j h = grind (arith, common_steps)

old_serial : (rows : List Row) (row : Row) (j : ℕ) → j < length rows
    → serial_at (rows ++ row ∷ []) j ≡ serial_at rows j
old_serial rows row j h = ap (λ r. r.serial) (old_row rows row j h)

old_key : (rows : List Row) (row : Row) (j : ℕ) → j < length rows
    → key_at (rows ++ row ∷ []) j ≡ key_at rows j
old_key rows row j h = ap (λ r. r.key) (old_row rows row j h)

new_serial : (rows : List Row) (row : Row) (j : ℕ) → j ≡ length rows
    → serial_at (rows ++ row ∷ []) j ≡ row.serial
new_serial rows row j h = ap (λ r. r.serial) (new_row rows row j h)

new_key : (rows : List Row) (row : Row) (j : ℕ) → j ≡ length rows
    → key_at (rows ++ row ∷ []) j ≡ row.key
new_key rows row j h = ap (λ r. r.key) (new_row rows row j h)

module _ (rows : List Row) (slab : Slab CObject) (given : ℕ) (sound : IsSound rows slab given) where
  pub object-is : (serial : ℕ)
      → get_or (objects_in rows slab given) serial None ≡ find_in rows (get slab) serial
  object-is serial = numbered-at (find_in rows (get slab)) (given + 1) serial
      (λ past. find-absent (get slab) rows serial (λ i inside same. omega (
        arith,
        sound.below i inside,
        same,
      )))

  pub object-at : (serial i : ℕ) → IsAt rows serial i
      → get_or (objects_in rows slab given) serial None ≡ get slab (key_at rows i)
  object-at serial i here = object-is serial ∙ find-at (get slab) rows serial i sound.rising here

  pub object-absent : (serial : ℕ) → IsAbsent rows serial
      → get_or (objects_in rows slab given) serial None ≡ None
  object-absent serial absent = object-is serial ∙ find-absent (get slab) rows serial absent

  pub key-is : (row : Row) (i : ℕ) → i < length rows → row ≡ get_or rows i row
      → key_at rows i ≡ row.key
  key-is row i inside same = ap (λ r. r.key) (get_or_default rows i _ row inside ∙ sym same)

  pub changed-objects : (after : Slab CObject) (i : ℕ) (v : CObject) → i < length rows
      → Updates slab after (key_at rows i) (Some v)
      → objects_in rows after given ≡ set (objects_in rows slab given) (serial_at rows i) (Some v)
  changed-objects after i v inside updates =
      numbered-set (find_in rows (get slab)) (find_in rows (get after)) (given + 1)
      (serial_at rows i) (Some v)
      (omega (arith, sound.below i inside))
      (λ j. find-changed (get slab)
      (get after) rows j i sound.rising sound.apart inside updates.others
      ∙ ap (λ x. cond (eqb (serial_at rows i) j) x (find_in rows (get slab) j)) updates.changed)

  pub changed-sound : (after : Slab CObject) (i : ℕ) (v : CObject) → i < length rows
      → Updates slab after (key_at rows i) (Some v) → IsSound rows after given
  changed-sound after i v inside updates = record {
    rising = sound.rising;
    apart = sound.apart;
    above = sound.above;
    below = sound.below;
    kept = λ j within. elim (cases_eq (key_at rows j) (key_at rows i)) [
      | inl same ↦ subst IsSome (sym (ap (get after) same ∙ updates.changed)) refl
      | inr other ↦ subst IsSome (sym (updates.others (key_at rows j) other)) (sound.kept j within)
    ];
  }

  pub removed-objects : (after : Slab CObject) (i : ℕ) → i < length rows
      → Updates slab after (key_at rows i) None
      → objects_in (remove rows i) after given ≡ set (objects_in rows slab given) (serial_at rows i)
      None
  removed-objects after i inside updates =
      numbered-set (find_in rows (get slab)) (find_in (remove rows i) (get after)) (given + 1)
      (serial_at rows i) None
      (omega (arith, sound.below i inside))
      (λ j. find-removed (get slab)
      (get after) rows j i sound.rising sound.apart inside updates.others)

  apart_both : (i j : ℕ) → i < length rows → j < length rows → (i ≡ j → ⊥)
      → key_at rows i ≡ key_at rows j → ⊥
  apart_both i j one two other same = elim (cases_lt i j) [
    | inl less ↦ sound.apart i j less two same
    | inr more ↦ sound.apart j i (omega (arith, other)) one (sym same)
  ]

  pub removed-sound : (after : Slab CObject) (i : ℕ) → i < length rows
      → Updates slab after (key_at rows i) None
      → IsSound (remove rows i) after given
  removed-sound after i inside updates = record {
    rising = λ j k less within.
        let m = left rows i j inside (omega arith) in
        let n = left rows i k inside within in
        let up = left_rises i j k m.0 n.0 less m.1.before m.1.from n.1.before n.1.from in
        omega (arith, sound.rising m.0 n.0 up n.1.in_range, m.1.serials, n.1.serials);
    apart = λ j k less within same.
        let m = left rows i j inside (omega arith) in
        let n = left rows i k inside within in
        let up = left_rises i j k m.0 n.0 less m.1.before m.1.from n.1.before n.1.from in
        sound.apart m.0 n.0 up n.1.in_range (sym m.1.keys ∙ same ∙ n.1.keys);
    above =
        λ j within. let m =
        left rows i j inside within in omega (arith, sound.above m.0 m.1.in_range, m.1.serials);
    below =
        λ j within. let m =
        left rows i j inside within in omega (arith, sound.below m.0 m.1.in_range, m.1.serials);
    kept = λ j within.
        let m = left rows i j inside within in
        let other : key_at rows m.0 ≡ key_at rows i → ⊥ =
        apart_both m.0 i m.1.in_range inside m.1.other in
        subst IsSome (sym (ap (get after) m.1.keys ∙ updates.others (key_at rows m.0) other))
        (sound.kept m.0 m.1.in_range);
  }

  vacant_other : (key : ℕ) → get slab key ≡ None → (i : ℕ) → i < length rows → key_at rows i ≡ key
      → ⊥
  vacant_other key vacant i inside same =
      let some : IsSome (get slab key) =
      subst (λ k. IsSome (get slab k)) same (sound.kept i inside) in
      not_some (subst IsSome vacant some)

  pub pushed-objects : (after : Slab CObject) (key : ℕ) (o : CObject) → get slab key ≡ None
      → Updates slab after key (Some o)
      → objects_in (rows ++ record { serial = given + 1; key = key } ∷ []) after (given + 1) ≡
      objects_in rows slab given ++ Some o ∷ []
  pushed-objects after key o vacant updates =
      let row : Row = record { serial = given + 1; key = key } in
      let found = λ (j : ℕ). find-pushed (get slab) (get after) rows row j
      (λ i inside. omega (arith, sound.below i inside))
      (λ i inside. updates.others (key_at rows i) (vacant_other key vacant i inside)) in
      let mine : eqb (given + 1) (given + 1) ≡ true = eq-eqb _ _ refl in
      numbered-push (find_in rows (get slab)) (find_in (rows ++ row ∷ []) (get after)) (given + 1)
      (Some o)
      (found (given + 1) ∙ ap (λ b. cond b (get after key) (find_in rows (get slab)
      (given + 1))) mine ∙ updates.changed)
      (λ j less. found j ∙ ap (λ b. cond b (get after key) (find_in rows (get slab) j)) (ne_eqb
      (given + 1) j (λ e. omega arith)))

  pub pushed-sound : (after : Slab CObject) (key : ℕ) (o : CObject) → get slab key ≡ None
      → Updates slab after key (Some o)
      → IsSound (rows ++ record { serial = given + 1; key = key } ∷ []) after (given + 1)
  pushed-sound after key o vacant updates =
      let row : Row = record { serial = given + 1; key = key } in
      record {
        rising = λ j k less within. elim (cases_lt k (length rows)) [
          | inl old ↦ omega (
            arith,
            sound.rising j k less old,
            old_serial rows row j (omega arith),
            old_serial rows row k old,
          )
          | inr new ↦ omega (
            arith,
            sound.below j (omega (arith, push_long rows row)),
            old_serial rows row j (omega (arith, push_long rows row)),
            new_serial rows row k (omega (arith, push_long rows row)),
          )
        ];
        apart = λ j k less within same. elim (cases_lt k (length rows)) [
          | inl old ↦ sound.apart j k less old
              (sym (old_key rows row j (omega arith)) ∙ same ∙ old_key rows row k old)
          | inr new ↦ vacant_other key vacant j (omega (arith, push_long rows row))
              (sym (old_key rows row j (omega (arith, push_long rows row))) ∙ same
              ∙ new_key rows row k (omega (arith, push_long rows row)))
        ];
        above = λ j within. elim (cases_lt j (length rows)) [
          | inl old ↦ omega (arith, sound.above j old, old_serial rows row j old)
          | inr new ↦ omega (arith, new_serial rows row j (omega (arith, push_long rows row)))
        ];
        below = λ j within. elim (cases_lt j (length rows)) [
          | inl old ↦ omega (arith, sound.below j old, old_serial rows row j old)
          | inr new ↦ omega (arith, new_serial rows row j (omega (arith, push_long rows row)))
        ];
        kept = λ j within. elim (cases_lt j (length rows)) [
          | inl old ↦ subst IsSome
              (sym (ap (get after) (old_key rows row j old) ∙ updates.others (key_at rows j)
              (vacant_other key vacant j old)))
              (sound.kept j old)
          | inr new ↦ subst IsSome
              (sym (ap (get after) (new_key rows row j (omega (arith, push_long rows row)))
              ∙ updates.changed))
              refl
        ];
      }
