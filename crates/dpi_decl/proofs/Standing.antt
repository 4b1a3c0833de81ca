-- A body is a function of the program.
use Rattle.std.proofs.Common.{◌≡◌, ℕ, ◌+◌, Bool, true, false, Option, Some, None, List, [], ◌∷◌, ◌++◌, refl, sym, ap, ◌∙◌, subst}
use Rattle.std.specs.Prelude.{not, ◌&&◌, ◌||◌, is_some, if◌then◌else◌}
use Rattle.std.specs.Option.{option_or}
use Rattle.std.specs.List.{list_all, list_any, position_from}
use Rattle.std.specs.Str.{bytes_eq}
use Rattle.std.proofs.lemmas.List.Folds.{list_any-append}
use Rattle.c_tree.specs.declared.file.CFile.{CFile}
use Rattle.c_functions.specs.Declarations.{Known, known_of}
use Rattle.c_program.specs.declared.functions.CFunction.{CFunction}
use Rattle.c_program.specs.Functions.{Names, Named, no_names, is_named, opened, own_bodies, shared_bodies, shared_behind, with_declaration, function_of, stands, functions_at, functions_behind, functions_in, functions_from, functions_of}
use Rattle.c_check.specs.Check.{violations}
use Rattle.dpi_links.specs.Firsts.{first_given}
use Rattle.dpi_links.specs.Functions.{given, first_body, shared_body}
use Rattle.dpi_decl.specs.Functions.{numbers_in}
use Rattle.dpi_decl.proofs.Typed.{stands_at, typed, all_typed, first_of_both, second_of_both}

either_first : (a b : Bool) → a ≡ true → (a || b) ≡ true
either_first true b h = refl
either_first false b h = absurd (cc)

either_second : (a b : Bool) → b ≡ true → (a || b) ≡ true
either_second true b h = refl
either_second false b h = h

any_first : {X : Type 0} (p : X → Bool) (xs ys : List X) → list_any p xs ≡ true → list_any p (xs ++ ys) ≡ true
any_first p xs ys h = list_any-append p xs ys ∙ either_first (list_any p xs) (list_any p ys) h

any_second : {X : Type 0} (p : X → Bool) (xs ys : List X) → list_any p ys ≡ true → list_any p (xs ++ ys) ≡ true
any_second p xs ys h = list_any-append p xs ys ∙ either_second (list_any p xs) (list_any p ys) h

found_by : (b : Bool) (i : ℕ) (o : Option ℕ) (others : Bool) → (others ≡ true → is_some o ≡ true) → (b || others) ≡ true → is_some (if b then Some i else o) ≡ true
found_by true i o others later h = refl
found_by false i o others later h = later h

-- what one of a list passes has a position
pub found : {X : Type 0} (p : X → Bool) (i : ℕ) (xs : List X) → list_any p xs ≡ true → is_some (position_from p i xs) ≡ true
found p i [] h = absurd (cc)
found p i (x ∷ xs) h = found_by (p x) i (position_from p (i + 1) xs) (list_any p xs) (found p (i + 1) xs) h

-- ---- the first body of a name

-- the declaration itself, and its body stands there
record IsBody (x d : Known) : Type 0 where
  same : x ≡ d
  body : x.has_body ≡ true

chosen : (x d : Known) (b s : Bool) (h : Bool) → x.has_body ≡ h → (if b then (if h && s then Some x else None) else None) ≡ Some d → IsBody x d
chosen x d true true true k e = record { same = cc; body = k }
chosen x d true false true k e = absurd (cc)
chosen x d true s false k e = absurd (cc)
chosen x d false s h k e = absurd (cc)

given_is : (x d : Known) (name : List ℕ) → given false x name ≡ Some d → IsBody x d
given_is x d name e = chosen x d (bytes_eq x.name name) (not x.is_static) x.has_body refl e

at_body : {A : Type 0} (b c : Bool) (xs : List A) → b ≡ true → (if b || c then xs else []) ≡ xs
at_body true c xs h = refl
at_body false c xs h = absurd (cc)

-- it stands at its body
here : (bodies before : Named) (x d : Known) → IsBody x d → typed x ≡ true → list_any (stands_at d) (functions_at bodies before x) ≡ true
here bodies before x d is t =
    ap (list_any (stands_at d)) (at_body x.has_body (not (is_named bodies x || is_named before x)) (function_of x) is.body)
    ∙ subst (λ (y : Known). list_any (stands_at y) (function_of x) ≡ true) is.same t

in_cons : (bodies before : Named) (x d : Known) (rest : Option Known) (name : List ℕ) (more : List CFunction) → typed x ≡ true → (rest ≡ Some d → list_any (stands_at d) more ≡ true) → (o : Option Known) → given false x name ≡ o → option_or o rest ≡ Some d → list_any (stands_at d) (functions_at bodies before x ++ more) ≡ true
in_cons bodies before x d rest name more t later None g e = any_second (stands_at d) (functions_at bodies before x) more (later e)
in_cons bodies before x d rest name more t later (Some y) g e =
    any_first (stands_at d) (functions_at bodies before x) more (here bodies before x d (given_is x d name (g ∙ e)) t)

in_list : (bodies before : Named) (ds : List Known) (d : Known) (name : List ℕ) → list_all typed ds ≡ true → first_given (given false) ds name ≡ Some d → list_any (stands_at d) (functions_behind bodies before ds) ≡ true
in_list bodies before [] d name t e = absurd (cc)
in_list bodies before (x ∷ ds) d name t e =
    let behind = with_declaration before x in
    let later = in_list bodies behind ds d name (second_of_both (typed x) (list_all typed ds) t) in
    in_cons bodies before x d (first_given (given false) ds name) name (functions_behind bodies behind ds) (first_of_both (typed x) (list_all typed ds) t) later (given false x name) refl e

in_file : (bodies before : Names) (ds : List Known) (d : Known) (rest : Option Known) (name : List ℕ) (more : List CFunction) → list_all typed ds ≡ true → (rest ≡ Some d → list_any (stands_at d) more ≡ true) → (o : Option Known) → first_body false ds name ≡ o → option_or o rest ≡ Some d → list_any (stands_at d) (functions_in bodies before ds ++ more) ≡ true
in_file bodies before ds d rest name more t later None g e = any_second (stands_at d) (functions_in bodies before ds) more (later e)
in_file bodies before ds d rest name more t later (Some y) g e =
    any_first (stands_at d) (functions_in bodies before ds) more (in_list (opened bodies (own_bodies ds)) (opened before no_names) ds d name t (g ∙ e))

in_files : (bodies before : Names) (files : List (List Known)) (d : Known) (name : List ℕ) → list_all (list_all typed) files ≡ true → first_given (first_body false) files name ≡ Some d → list_any (stands_at d) (functions_from bodies before files) ≡ true
in_files bodies before [] d name t e = absurd (cc)
in_files bodies before (ds ∷ files) d name t e =
    let behind = shared_behind before ds in
    let later = in_files bodies behind files d name (second_of_both (list_all typed ds) (list_all (list_all typed) files) t) in
    in_file bodies before ds d (first_given (first_body false) files name) name (functions_from bodies behind files) (first_of_both (list_all typed ds) (list_all (list_all typed) files) t) later (first_body false ds name) refl e

-- the body of a name that all files share has a number
pub body_numbered : (cs : List CFile) (d : Known) (name : List ℕ) → violations cs ≡ [] → shared_body (known_of cs) name ≡ Some d → is_some (numbers_in (functions_of cs) d.file d.token) ≡ true
body_numbered cs d name clean e =
    found (stands_at d) 0 (functions_of cs) (in_files (shared_bodies (known_of cs)) no_names (known_of cs) d name (all_typed cs clean) e)
