-- What is kept of the definitions of each name.
use Rattle.std.proofs.Common.{◌≡◌, ℕ, Bool, true, false, cond, not, List, [], ◌∷◌, ◌++◌, refl, sym, ap, ◌∙◌, subst, arith, Option, Some, None}
use Rattle.std.specs.Prelude.{nat_lt, ◌&&◌, ◌||◌, is_some, if◌then◌else◌}
use Rattle.std.specs.List.{list_any}
use Rattle.std.specs.Option.{option_or}
use Rattle.std.specs.Str.{bytes_eq}
use Rattle.std.proofs.lemmas.Bool.{false≢true}
use Rattle.std.proofs.lemmas.Bool.Decides.{nat_tests}
use Rattle.std.proofs.lemmas.List.{append-nil}
use Rattle.std.proofs.lemmas.List.Elements.{filter-append}
use Rattle.std.proofs.lemmas.List.Folds.{list_any-append}
use Rattle.std.proofs.lemmas.Slice.Eq.{bytes_eq-Decides}
use Rattle.c_functions.specs.declared.sizes.ObjectType.{ObjectType}
use Rattle.c_functions.specs.declared.definitions.Defined.{Defined}
use Rattle.c_functions.specs.declared.definitions.Definitions.{Definitions}
use Rattle.c_functions.specs.Objects.{Shared}
use Rattle.c_functions.specs.Shared.{same_object, differ, is_empty, defines, definitions, extern_breaks, breaks, definition_by, breaks_by, violations_by, object_violations, name_violations, with_one, kept_of, Says, Keeps}
use Rattle.c_functions.proofs.SameTypes.{same_object_is}

or_false : (a : Bool) → (a || false) ≡ a
or_false true = refl
or_false false = refl

or_and_false : (a b : Bool) → (a || (b && false)) ≡ (a || false)
or_and_false true b = refl
or_and_false false true = refl
or_and_false false false = refl

no_none : (o : Option ObjectType) → differ o None ≡ false
no_none None = refl
no_none (Some s) = refl

not_empty : {A : Type 0} (xs : List A) (x : A) → false ≡ is_empty (xs ++ x ∷ [])
not_empty [] x = refl
not_empty (y ∷ xs) x = refl

least_before : (a b file : ℕ) → nat_lt (if nat_lt b a then b else a) file ≡ (nat_lt a file || nat_lt b file)
least_before a b file = grind (arith, nat_tests)

-- an object type that another one joins
with_same : (s t : ObjectType) (o : Option ObjectType) (mixed b : Bool) → same_object s t ≡ b → (not b || (mixed || differ o (Some s))) ≡ ((not b || mixed) || differ o (Some t))
with_same s t o true true h = refl
with_same s t o false true h = ap (λ (u : ObjectType). differ o (Some u)) (same_object_is s t h)
with_same s t o mixed false h = refl

joined_differs : (k o of : Option ObjectType) (mixed : Bool) → (k ≡ None → mixed ≡ false) → (differ (option_or k o) of || (is_some of && (mixed || differ o k))) ≡ ((differ k of || (is_some of && mixed)) || differ o of)
joined_differs None None None mixed h = refl
joined_differs None None (Some t) mixed h = rw (h refl) refl
joined_differs None (Some u) None mixed h = refl
joined_differs None (Some u) (Some t) mixed h = rw (h refl) (or_false (differ (Some u) (Some t)))
joined_differs (Some s) None None mixed h = refl
joined_differs (Some s) (Some u) None mixed h = refl
joined_differs (Some s) o (Some t) mixed h = with_same s t o mixed (same_object s t) refl

still_unmixed : (k o : Option ObjectType) (mixed : Bool) → (k ≡ None → mixed ≡ false) → option_or k o ≡ None → (mixed || differ o k) ≡ false
still_unmixed None o mixed h e = rw (h refl) (no_none o)
still_unmixed (Some s) o mixed h e = absurd (false≢true (sym (ap is_some e)))

-- one more definition of a name
said_more : (kept : Option Defined) (ds : List Shared) (o : Shared) → Says kept ds → Says (Some (with_one kept o)) (ds ++ o ∷ [])
said_more None [] o said = record {
  none_is = refl;
  extern_is = λ of. or_and_false (differ o.of of) (is_some of);
  definition_is = λ file. sym (or_false (nat_lt o.file file));
  unmixed = λ h. refl;
}
said_more None (d ∷ ds) o said = absurd (false≢true (sym said.none_is))
said_more (Some k) ds o said = record {
  none_is = not_empty ds o;
  extern_is = λ of.
      let test = λ (d : Shared). differ d.of of in
      joined_differs k.of o.of of k.is_mixed said.unmixed
      ∙ ap (λ b. b || differ o.of of) (said.extern_is of ∙ ap (λ b. b || list_any test ds) (sym said.none_is))
      ∙ ap (λ b. list_any test ds || b) (sym (or_false (differ o.of of)))
      ∙ sym (list_any-append test ds (o ∷ []))
      ∙ ap (λ b. b || list_any test (ds ++ o ∷ [])) (not_empty ds o);
  definition_is = λ file.
      let test = λ (d : Shared). nat_lt d.file file in
      least_before k.file o.file file
      ∙ ap (λ b. b || nat_lt o.file file) (said.definition_is file)
      ∙ ap (λ b. list_any test ds || b) (sym (or_false (nat_lt o.file file)))
      ∙ sym (list_any-append test ds (o ∷ []));
  unmixed = still_unmixed k.of o.of k.is_mixed said.unmixed;
}

definitions_more : (os : List Shared) (o : Shared) (name : List ℕ) → definitions (os ++ o ∷ []) name ≡ definitions os name ++ cond (defines name o) (o ∷ []) []
definitions_more os o name = filter-append (defines name) os (o ∷ [])

says_at : (old : Definitions) (os : List Shared) (o : Shared) (d : Defined) (name : List ℕ) (b : Bool) → d ≡ with_one (kept_of old o.name) o → Says (kept_of old name) (definitions os name) → (b ≡ true → o.name ≡ name) → Says (if b then Some d else kept_of old name) (definitions os name ++ cond b (o ∷ []) [])
says_at old os o d name true is said same =
    let here : with_one (kept_of old name) o ≡ d = ap (λ n. with_one (kept_of old n) o) (sym (same refl)) ∙ sym is in
    subst (λ e. Says (Some e) (definitions os name ++ o ∷ [])) here (said_more (kept_of old name) (definitions os name) o said)
says_at old os o d name false is said same = subst (Says (kept_of old name)) (sym (append-nil (definitions os name))) said

-- one more definition
pub keeps_more : (old new : Definitions) (os : List Shared) (o : Shared) (d : Defined) → o.is_extern ≡ false → d ≡ with_one (kept_of old o.name) o → ((name : List ℕ) → kept_of new name ≡ (if bytes_eq o.name name then Some d else kept_of old name)) → Keeps old os → Keeps new (os ++ o ∷ [])
keeps_more old new os o d none is more keeps = λ name.
    let b = bytes_eq o.name name in
    let said = says_at old os o d name b is (keeps name) ((bytes_eq-Decides o.name name).0) in
    let here : definitions os name ++ cond b (o ∷ []) [] ≡ definitions (os ++ o ∷ []) name =
    ap (λ e. definitions os name ++ cond (not e && b) (o ∷ []) []) (sym none) ∙ sym (definitions_more os o name) in
    subst (λ k. Says k (definitions (os ++ o ∷ []) name)) (sym (more name)) (subst (Says (if b then Some d else kept_of old name)) here said)

-- an `extern` declaration is no definition
pub keeps_extern : (old : Definitions) (os : List Shared) (o : Shared) → o.is_extern ≡ true → Keeps old os → Keeps old (os ++ o ∷ [])
keeps_extern old os o is keeps = λ name.
    let b = bytes_eq o.name name in
    let here : definitions os name ≡ definitions (os ++ o ∷ []) name =
    sym (append-nil (definitions os name))
    ∙ ap (λ e. definitions os name ++ cond (not e && b) (o ∷ []) []) (sym is)
    ∙ sym (definitions_more os o name) in
    subst (Says (kept_of old name)) here (keeps name)

breaks_are : (kept : Option Defined) (ds : List Shared) (o : Shared) → Says kept ds → breaks_by kept o ≡ breaks ds o
breaks_are kept ds o said =
    ap (λ b. if o.is_extern then b else definition_by kept o.file) (said.extern_is o.of)
    ∙ ap (λ b. if o.is_extern then extern_breaks ds o.of else b) (said.definition_is o.file)

-- what is kept tells what each object breaks
pub kept_violations : (kept : Definitions) (os : List Shared) → Keeps kept os → violations_by (kept_of kept) ≡ object_violations os
kept_violations kept os keeps = λ i o. ap (λ b. name_violations b o) (breaks_are (kept_of kept o.name) (definitions os o.name) o (keeps o.name)) i
