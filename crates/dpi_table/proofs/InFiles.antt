-- Tables of files, one more, and one in which a value is put.
use Rattle.std.proofs.Common.{◌≡◌, ℕ, zero, suc, ◌++◌, List, [], ◌∷◌, set, cond, Some, None, refl, sym, ap, ◌∙◌}
use Rattle.std.specs.Option.{option_or}
use Rattle.std.proofs.Math.Dec.{eqb-suc-zero, eqb-zero-suc, eqb-suc-suc}
use Rattle.std.specs.Prelude.{◌==◌, ◌&&◌, slice_get}
use Rattle.dpi_table.specs.declared.table.Table.{Table}
use Rattle.dpi_table.specs.Tables.{no_values, with_value, at}
use Rattle.dpi_table.specs.Files.{FileValues, with_file_value, held_in}
use Rattle.dpi_table.proofs.Cells.{option_or-none}

-- functions that agree on each token of each file
pub same_file_values : {A : Type 0} (v w : FileValues A) → ((file token : ℕ) → v file token ≡ w file token) → v ≡ w
same_file_values v w h = λ i file token. h file token i

push_empty_at : {A : Type 0} (ts : List (Table A)) (t : Table A) → at t ≡ no_values → (file token : ℕ) → held_in (ts ++ t ∷ []) file token ≡ held_in ts file token
push_empty_at [] t e zero token = ap (λ v. v token) e
push_empty_at [] t e (suc file) token = refl
push_empty_at (s ∷ ts) t e zero token = refl
push_empty_at (s ∷ ts) t e (suc file) token = push_empty_at ts t e file token

-- a table without values more holds nothing
pub push_empty : {A : Type 0} (ts : List (Table A)) (t : Table A) → at t ≡ no_values → held_in (ts ++ t ∷ []) ≡ held_in ts
push_empty ts t e = same_file_values (held_in (ts ++ t ∷ [])) (held_in ts) (push_empty_at ts t e)

set_value_at : {A : Type 0} (ts : List (Table A)) (file token : ℕ) (value : A) (old new : Table A) → slice_get ts file ≡ Some old → at new ≡ with_value (at old) token value
    → (f t : ℕ) → held_in (set ts file new) f t ≡ with_file_value (held_in ts) file token value f t
set_value_at [] file token value old new is put f t = absurd (cc)
set_value_at (s ∷ ts) zero token value old new is put zero t =
    ap (λ v. v t) put ∙ ap (λ (o : Table _). with_value (at o) token value t) (sym (let e : s ≡ old = cc in e))
set_value_at (s ∷ ts) zero token value old new is put (suc f) t =
    sym (ap (λ b. option_or (held_in ts f t) (cond (b && (token == t)) (Some value) None)) (eqb-zero-suc f) ∙ option_or-none (held_in ts f t))
set_value_at (s ∷ ts) (suc file) token value old new is put zero t =
    sym (ap (λ b. option_or (at s t) (cond (b && (token == t)) (Some value) None)) (eqb-suc-zero file) ∙ option_or-none (at s t))
set_value_at (s ∷ ts) (suc file) token value old new is put (suc f) t =
    set_value_at ts file token value old new is put f t
    ∙ ap (λ b. option_or (held_in ts f t) (cond (b && (token == t)) (Some value) None)) (sym (eqb-suc-suc file f))

-- the table of a file with one value more
pub set_value : {A : Type 0} (ts : List (Table A)) (file token : ℕ) (value : A) (old new : Table A) → slice_get ts file ≡ Some old → at new ≡ with_value (at old) token value
    → held_in (set ts file new) ≡ with_file_value (held_in ts) file token value
set_value ts file token value old new is put =
    same_file_values (held_in (set ts file new)) (with_file_value (held_in ts) file token value) (set_value_at ts file token value old new is put)

set_same_at : {A : Type 0} (ts : List (Table A)) (file : ℕ) (old new : Table A) → slice_get ts file ≡ Some old → at new ≡ at old
    → (f t : ℕ) → held_in (set ts file new) f t ≡ held_in ts f t
set_same_at [] file old new is same f t = absurd (cc)
set_same_at (s ∷ ts) zero old new is same zero t = ap (λ v. v t) same ∙ ap (λ (o : Table _). at o t) (sym (let e : s ≡ old = cc in e))
set_same_at (s ∷ ts) zero old new is same (suc f) t = refl
set_same_at (s ∷ ts) (suc file) old new is same zero t = refl
set_same_at (s ∷ ts) (suc file) old new is same (suc f) t = set_same_at ts file old new is same f t

-- a table that means the same
pub set_same : {A : Type 0} (ts : List (Table A)) (file : ℕ) (old new : Table A) → slice_get ts file ≡ Some old → at new ≡ at old → held_in (set ts file new) ≡ held_in ts
set_same ts file old new is same = same_file_values (held_in (set ts file new)) (held_in ts) (set_same_at ts file old new is same)
