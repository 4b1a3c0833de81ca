use Rattle.std.proofs.Common.{◌≡◌, ℕ, ◌+◌, ◌-◌, ◌<◌, ◌≤◌, Bool, true, false, not, cond, zero, suc}
use Rattle.std.proofs.Common.{List, [], ◌∷◌, length, take, drop, get_or, Option, Some, None, ap}
use Rattle.std.proofs.Common.{◌∙◌, arith, inl, inr, ⊎_elim}
use Rattle.std.specs.Prelude.{◌⊎◌}
use Rattle.std.proofs.lemmas.List.{length-take-le, take-take, get_or-take}
use Rattle.std.proofs.lemmas.Bool.{cases_lt}
use Rattle.std.proofs.lemmas.Bool.Decides.{nat_tests}
use Rattle.dpi_lex.specs.declared.fault.LexFault.TheVariants.{BadByte, Unclosed}
use Rattle.dpi_lex.specs.declared.form.Form.{Form}
use Rattle.dpi_lex.specs.declared.form.Form.TheVariants.{Whole, Faulty}
use Rattle.dpi_lex.specs.declared.token.Kind.TheVariants.{Text}
use Rattle.dpi_lex.specs.Bytes.{is_quote, is_backslash}
use Rattle.dpi_lex.specs.Place.{is_line_feed}
use Rattle.dpi_lex.specs.Shapes.{form_if, is_body, IsLongestBody, ending_form, text_form}
use Rattle.dpi_lex.specs.Stretches.{longest_front}
use Rattle.dpi_lex.proofs.Longest.{longest_is}

-- the form of a stretch that begins with a quote, by how many bytes stand after it
abbrev form_after : (ℕ → Bool) → List ℕ → ℕ → Option Form
form_after e inner j =
    cond (is_body e false (take j inner)) (Some (Faulty (Unclosed 0)))
    (cond (is_body e false (take (j - 1) inner)) (ending_form j (get_or inner (j - 1) 0)) None)

text_form-take : (e : ℕ → Bool) (q : ℕ) (inner : List ℕ) (j : ℕ) → is_quote q ≡ true →
    j ≤ length inner → text_form e (q ∷ take j inner) ≡ form_after e inner j
text_form-take e q inner zero quote le =
    ap (λ t. cond (not t) None (Some (Faulty (Unclosed 0)))) quote
text_form-take e q inner (suc i) quote le =
    let more : List ℕ = take (suc i) inner in
    let F : Bool → List ℕ → ℕ → ℕ →
    Option Form = λ t ys b n. cond (not t) None
    (cond (is_body e false more) (Some (Faulty (Unclosed 0)))
    (cond (is_body e false ys) (ending_form n b) None)) in
    let size : length more ≡ suc i = length-take-le (suc i) inner le in
    let front : take (length more - 1) more ≡ take (suc i - 1) inner =
    ap (λ n. take (n - 1) more) size ∙ take-take (suc i - 1) (suc i) inner (omega arith) in
    let last : get_or more (length more - 1) 0 ≡ get_or inner (suc i - 1) 0 =
    ap (λ n. get_or more (n - 1) 0) size
    ∙ get_or-take (suc i) inner (suc i - 1) 0 (omega arith) in
    ap (λ t. F t (take (length more - 1) more) (get_or more (length more - 1) 0) (length more))
    quote
    ∙ ap (λ ys. F true ys (get_or more (length more - 1) 0) (length more)) front
    ∙ ap (λ b. F true (take (suc i - 1) inner) b (length more)) last
    ∙ ap (λ n. F true (take (suc i - 1) inner) (get_or inner (suc i - 1) 0) n) size

-- past the longest body only the byte that ends it has a form
form_after-past : (e : ℕ → Bool) (inner : List ℕ) (n j : ℕ) → IsLongestBody e inner n → n < j →
    j ≤ length inner → form_after e inner j ≡ cond (is_body e false (take (j - 1) inner))
    (ending_form j (get_or inner (j - 1) 0)) None
form_after-past e inner n j body past le =
    ap (λ t. cond t (Some (Faulty (Unclosed 0)))
    (cond (is_body e false (take (j - 1) inner)) (ending_form j (get_or inner (j - 1) 0)) None))
    (body.longest j past le)

form_after-next : (e : ℕ → Bool) (inner : List ℕ) (n : ℕ) → IsLongestBody e inner n →
    n < length inner → form_after e inner (suc n) ≡ ending_form (suc n) (get_or inner n 0)
form_after-next e inner n body lt =
    let same : suc n - 1 ≡ n = omega arith in
    form_after-past e inner n (suc n) body (omega arith) (omega arith)
    ∙ ap (λ k. cond (is_body e false (take k inner)) (ending_form (suc n) (get_or inner k 0)) None)
    same
    ∙ ap (λ t. cond t (ending_form (suc n) (get_or inner n 0)) None) body.body

form_after-far : (e : ℕ → Bool) (inner : List ℕ) (n j : ℕ) → IsLongestBody e inner n → suc n < j →
    j ≤ length inner → form_after e inner j ≡ None
form_after-far e inner n j body past le =
    form_after-past e inner n j body (omega arith) le
    ∙ ap (λ t. cond t (ending_form j (get_or inner (j - 1) 0)) None)
    (body.longest (j - 1) (omega arith) (omega arith))

-- the longest stretch behind a quote ends where the longest such count of bytes does
longest_text : (e : ℕ → Bool) (q : ℕ) (inner : List ℕ) (j : ℕ) (form : Form) → is_quote q ≡ true →
    j ≤ length inner → form_after e inner j ≡ Some form →
    ((k : ℕ) → j < k → k ≤ length inner → form_after e inner k ≡ None) →
    longest_front (text_form e) (q ∷ inner) ≡ record { form = form; len = suc j }
longest_text e q inner j form quote le is longer =
    longest_is (λ m. text_form e (take m (q ∷ inner))) (length (q ∷ inner)) (suc j) form
    (omega arith) (omega arith) (text_form-take e q inner j quote le ∙ is) past
  where
    past : (m : ℕ) → suc j < m → m ≤ length (q ∷ inner) → text_form e (take m (q ∷ inner)) ≡ None
    past zero lt within = absurd (omega arith)
    past (suc k) lt within = text_form-take e q inner k quote (omega arith)
        ∙ longer k (omega arith) (omega arith)

ending_form-other : (place b : ℕ) → is_quote b ≡ false → is_backslash b ≡ false →
    ending_form place b ≡ None
ending_form-other place b p q =
    ap (λ t. cond t (Some (Whole Text)) (form_if (is_backslash b) (Faulty (BadByte place)))) p
    ∙ ap (λ t. form_if t (Faulty (BadByte place))) q

feed_is_no_quote : (b : ℕ) → is_line_feed b ≡ true → is_quote b ≡ false
feed_is_no_quote b feed = grind (arith, nat_tests)

feed_is_no_backslash : (b : ℕ) → is_line_feed b ≡ true → is_backslash b ≡ false
feed_is_no_backslash b feed = grind (arith, nat_tests)

-- a string whose line or text ends first
pub longest_front-unclosed : (e : ℕ → Bool) (rest inner : List ℕ) (n : ℕ) → inner ≡ drop 1 rest →
    0 < length rest → is_quote (get_or rest 0 0) ≡ true → IsLongestBody e inner n →
    (n ≡ length inner) ⊎ (is_line_feed (get_or inner n 0) ≡ true) → (len : ℕ) → len ≡ 1 + n →
    longest_front (text_form e) rest ≡ record { form = Faulty (Unclosed 0); len = len }
longest_front-unclosed e [] inner n from some quote body ends len is = absurd (omega arith)
longest_front-unclosed e (q ∷ more) inner n from some quote body ends len is =
    let same : len ≡ suc n = omega arith in
    let unclosed : Option Form = Some (Faulty (Unclosed 0)) in
    rw
    (same, ← from)
    (longest_text e q inner n (Faulty (Unclosed 0)) quote body.within
    (ap (λ t. cond t unclosed
    (cond (is_body e false (take (n - 1) inner)) (ending_form n (get_or inner (n - 1) 0)) None))
    body.body) (λ k past le. ⊎_elim
    (λ (far : suc n < k). form_after-far e inner n k body far le)
    (λ (near : k ≤ suc n). next k past near le ends) (cases_lt (suc n) k)))
  where
    next : (k : ℕ) → n < k → k ≤ suc n → k ≤ length inner →
        (n ≡ length inner) ⊎ (is_line_feed (get_or inner n 0) ≡ true) → form_after e inner k ≡ None
    next k past near le (inl all) = absurd (omega arith)
    next k past near le (inr feed) =
        let is : k ≡ suc n = omega arith in
        rw is (form_after-next e inner n body (omega arith)
        ∙ ending_form-other (suc n) (get_or inner n 0) (feed_is_no_quote _ feed)
        (feed_is_no_backslash _ feed))

-- a string with its end
pub longest_front-closed : (e : ℕ → Bool) (rest inner : List ℕ) (n : ℕ) → inner ≡ drop 1 rest →
    0 < length rest → is_quote (get_or rest 0 0) ≡ true → IsLongestBody e inner n →
    n < length inner → (form : Form) → ending_form (suc n) (get_or inner n 0) ≡ Some form →
    (len : ℕ) → len ≡ 2 + n → longest_front (text_form e) rest ≡ record { form = form; len = len }
longest_front-closed e [] inner n from some quote body lt form is len size = absurd (omega arith)
longest_front-closed e (q ∷ more) inner n from some quote body lt form is len size =
    let same : len ≡ suc (suc n) = omega arith in
    rw (same, ← from) (longest_text e q inner (suc n) form quote (omega arith)
    (form_after-next e inner n body lt ∙ is)
    (λ k past le. form_after-far e inner n k body past le))

pub ending_form-quote : (place b : ℕ) → is_quote b ≡ true → ending_form place b ≡ Some (Whole Text)
ending_form-quote place b quote =
    ap (λ t. cond t (Some (Whole Text)) (form_if (is_backslash b) (Faulty (BadByte place)))) quote

pub ending_form-backslash : (place b : ℕ) → is_quote b ≡ false → is_backslash b ≡ true →
    ending_form place b ≡ Some (Faulty (BadByte place))
ending_form-backslash place b quote slash =
    ap (λ t. cond t (Some (Whole Text)) (form_if (is_backslash b) (Faulty (BadByte place)))) quote
    ∙ ap (λ t. form_if t (Faulty (BadByte place))) slash
