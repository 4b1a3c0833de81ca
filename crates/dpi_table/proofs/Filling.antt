-- Tables that are filled item by item, and file by file.
use Rattle.std.proofs.Common.{◌≡◌, ℕ, zero, suc, ◌+◌, ◌<◌, ◌++◌, List, [], ◌∷◌, length, drop, take, map, get_or, Bool, true, false, cond, Option, Some, None, refl, sym, ap, ◌∙◌, ◌≤◌, arith}
use Rattle.std.specs.Option.{option_or}
use Rattle.std.proofs.lemmas.List.{take_more, map-append, length-map, length-take-le}
use Rattle.std.proofs.Math.Dec.{eqb-suc-zero, eqb-zero-suc, eqb-suc-suc}
use Rattle.std.specs.Prelude.{◌==◌, ◌&&◌, Result, Ok, Err, OnOk}
use Rattle.dpi_table.specs.Tables.{Values, only}
use Rattle.dpi_table.specs.Files.{FileValues, is_place, with_file_value}
use Rattle.dpi_table.specs.Firsts.{first_of, firsts_in, with_file_values, or_values, number_from, first_with, only_at}
use Rattle.dpi_table.proofs.Cells.{option_or-assoc, option_or-none}
use Rattle.dpi_table.proofs.InFiles.{same_file_values}

both : {A : Type 0} (a b : Bool) (o : Option A) → cond (a && b) o None ≡ cond a (cond b o None) None
both true b o = refl
both false b o = refl

-- a value that is put is one more value of its file
pub put_one : {A : Type 0} (v : FileValues A) (file token : ℕ) (value : A) → with_file_value v file token value ≡ with_file_values v file (only token value)
put_one v file token value =
    same_file_values (with_file_value v file token value) (with_file_values v file (only token value))
    (λ f t. ap (option_or (v f t)) (both (file == f) (token == t) (Some value)))

nothing : {A : Type 0} (a : Option A) (b : Bool) → option_or a (cond b None None) ≡ a
nothing a true = option_or-none a
nothing a false = option_or-none a

-- values of which nothing more is said
pub with_nothing : {A : Type 0} (v : FileValues A) (file : ℕ) → with_file_values v file (λ token. None) ≡ v
with_nothing v file = same_file_values (with_file_values v file (λ token. None)) v (λ f t. nothing (v f t) (file == f))

one_behind : {A : Type 0} (a b c : Option A) (e : Bool) → option_or (option_or a (cond e b None)) (cond e c None) ≡ option_or a (cond e (option_or b c) None)
one_behind a b c true = option_or-assoc a b c
one_behind a b c false = option_or-none (option_or a None)

-- values of a file, and then more of them
with_both : {A : Type 0} (v : FileValues A) (file : ℕ) (a b : Values A) → with_file_values (with_file_values v file a) file b ≡ with_file_values v file (λ t. option_or (a t) (b t))
with_both v file a b =
    same_file_values (with_file_values (with_file_values v file a) file b) (with_file_values v file (λ t. option_or (a t) (b t)))
    (λ f t. one_behind (v f t) (a t) (b t) (file == f))

-- one item of a file more: with the items left over it comes to the same
pub item_next : {X A : Type 0} (says : X → Values A) (all v next : FileValues A) (file : ℕ) (xs ys : List X) (x : X) → xs ≡ x ∷ ys
    → next ≡ with_file_values v file (says x)
    → with_file_values v file (first_of says xs) ≡ all
    → with_file_values next file (first_of says ys) ≡ all
item_next says all v next file xs ys x here made loop =
    ap (λ w. with_file_values w file (first_of says ys)) made
    ∙ with_both v file (says x) (first_of says ys)
    ∙ ap (λ zs. with_file_values v file (first_of says zs)) (sym here)
    ∙ loop

file_next_at : {X A : Type 0} (says : X → Values A) (xss : List (List X)) (xs : List X) (f t : ℕ) → with_file_values (firsts_in says xss) (length xss) (first_of says xs) f t ≡ firsts_in says (xss ++ xs ∷ []) f t
file_next_at says [] xs zero t = refl
file_next_at says [] xs (suc f) t = ap (λ b. cond b (first_of says xs t) None) (eqb-zero-suc f)
file_next_at says (ys ∷ yss) xs zero t = ap (λ b. option_or (first_of says ys t) (cond b (first_of says xs t) None)) (eqb-suc-zero (length yss)) ∙ option_or-none (first_of says ys t)
file_next_at says (ys ∷ yss) xs (suc f) t =
    ap (λ b. option_or (firsts_in says yss f t) (cond b (first_of says xs t) None)) (eqb-suc-suc (length yss) f) ∙ file_next_at says yss xs f t

-- one file more
pub file_next : {X A : Type 0} (says : X → Values A) (xss : List (List X)) (xs : List X) → with_file_values (firsts_in says xss) (length xss) (first_of says xs) ≡ firsts_in says (xss ++ xs ∷ [])
file_next says xss xs = same_file_values (with_file_values (firsts_in says xss) (length xss) (first_of says xs)) (firsts_in says (xss ++ xs ∷ [])) (file_next_at says xss xs)

-- no values, and others
pub or_values-none : {A : Type 0} (v : FileValues A) → or_values (λ file token. None) v ≡ v
or_values-none v = refl

-- values, and no others
pub or_none-values : {A : Type 0} (v : FileValues A) → or_values v (λ file token. None) ≡ v
or_none-values v = same_file_values (or_values v (λ file token. None)) v (λ f t. option_or-none (v f t))

-- the first of three
pub or_values-assoc : {A : Type 0} (u v w : FileValues A) → or_values (or_values u v) w ≡ or_values u (or_values v w)
or_values-assoc u v w = same_file_values (or_values (or_values u v) w) (or_values u (or_values v w)) (λ f t. option_or-assoc (u f t) (v f t) (w f t))

-- values, and none at one token
pub or_nothing-values : {A : Type 0} (v : FileValues A) (file token : ℕ) → or_values v (only_at file token None) ≡ v
or_nothing-values v file token = same_file_values (or_values v (only_at file token None)) v (λ f t. nothing (v f t) (is_place file token f t))

-- one item more: with the items left over it comes to the same
pub first_next : {X A : Type 0} (says : X → FileValues A) (all v next : FileValues A) (xs ys : List X) (x : X) → xs ≡ x ∷ ys
    → next ≡ or_values v (says x)
    → or_values v (first_with says xs) ≡ all
    → or_values next (first_with says ys) ≡ all
first_next says all v next xs ys x here made loop =
    ap (λ w. or_values w (first_with says ys)) made
    ∙ or_values-assoc v (says x) (first_with says ys)
    ∙ ap (λ zs. or_values v (first_with says zs)) (sym here)
    ∙ loop

this_first : {A : Type 0} (a : Option A) (b : Bool) (x : A) (c : Option A) → option_or (option_or a (cond b (Some x) None)) c ≡ option_or a (cond b (Some x) c)
this_first None true x c = refl
this_first None false x c = refl
this_first (Some y) b x c = refl

-- one item more at its position: with the items left over it comes to the same
pub number_next : {X : Type 0} (file_of token_of : X → ℕ) (all v next : FileValues ℕ) (xs ys : List X) (i : ℕ) (x : X) → xs ≡ x ∷ ys
    → next ≡ with_file_value v (file_of x) (token_of x) i
    → or_values v (number_from file_of token_of i xs) ≡ all
    → or_values next (number_from file_of token_of (i + 1) ys) ≡ all
number_next file_of token_of all v next xs ys i x here made loop =
    ap (λ w. or_values w (number_from file_of token_of (i + 1) ys)) made
    ∙ same_file_values (or_values (with_file_value v (file_of x) (token_of x) i) (number_from file_of token_of (i + 1) ys)) (or_values v (number_from file_of token_of i (x ∷ ys)))
    (λ f t. this_first (v f t) (is_place (file_of x) (token_of x) f t) i (number_from file_of token_of (i + 1) ys f t))
    ∙ ap (λ zs. or_values v (number_from file_of token_of i zs)) (sym here)
    ∙ loop

-- a file's items said behind those of the files before it
pub file_said : {X Y A : Type 0} (says : X → Values A) (look : Y → List X) (v next : FileValues A) (ys : List Y) (i : ℕ) (y : Y) → i < length ys → y ≡ get_or ys i y
    → next ≡ with_file_values v i (first_of says (look y))
    → v ≡ firsts_in says (map look (take i ys))
    → next ≡ firsts_in says (map look (take (i + 1) ys))
file_said says look v next ys i y h e made loop =
    let before = map look (take i ys) in
    let within : i ≤ length ys = omega arith in
    let counted : length before ≡ i = length-map (take i ys) look ∙ length-take-le i ys within in
    let longer : before ++ look y ∷ [] ≡ map look (take (i + 1) ys) =
    sym (ap (map look) (take_more ys i y h ∙ ap (λ z. take i ys ++ z ∷ []) (sym e)) ∙ map-append look (take i ys) (y ∷ [])) in
    made
    ∙ ap (λ w. with_file_values w i (first_of says (look y))) loop
    ∙ ap (λ n. with_file_values (firsts_in says before) n (first_of says (look y))) (sym counted)
    ∙ file_next says before (look y)
    ∙ ap (firsts_in says) longer

-- what holds whatever came of it
pub always : {R E P : Type 0} (r : Result R E) → P → OnOk r P
always (Ok x) h = h
always (Err e) h = tt
