use Rattle.std.proofs.Common.{◌≡◌, ◌+◌, ◌∷◌, ◌++◌, [], Result, Ok, Err, IfOk, sym, ap, ◌∙◌, arith}
use Rattle.std.proofs.Common.{inr, length}
use Rattle.dpi_lex.specs.declared.token.Token.{Token}
use Rattle.dpi_lex.specs.Languages.{forms_of}
use Rattle.dpi_lex.specs.Lexed.{Lexed, AreSpans}
use Rattle.dpi_lex.specs.Stretches.{lexed}
use Rattle.dpi_lex.proofs.Spans.{AreSpans-wider, AreSpans-push}
use Rattle.dpi_lex.proofs.Reading.{Step, Reads-start, Reads-step, Reads-end, Step-skipped}
use Rattle.dpi_lex.proofs.Reading.{Step-token, Step-fault}
use Rattle.dpi_lex.proofs.lexer.tokens_of.Goals as goal

IfOk_from : {A E : Type 0} {P Q : A → Type 0} (r : Result A E) → IfOk r P → ((v : A) → P v → Q v) →
    IfOk r Q
IfOk_from (Ok v) h f = f v h
IfOk_from (Err e) h f = tt

pub loop-place-init : goal.loop-place-init
loop-place-init c = rw c.new-tokens.ensures.items
    (omega arith, omega arith, Reads-start (forms_of c.args.language) c.args.text.now)

pub loop-place-preserved-in-Skipped : goal.loop-place-preserved-in-Skipped
loop-place-preserved-in-Skipped c =
    let forms = forms_of c.args.language in
    let text = c.args.text.now in
    let place = c.loop-place.place in
    let ts = c.loop-place.tokens.items in
    let s = c.stretch_at-stretch.result in
    let step : Step forms text place ts s =
    Reads-step forms text place ts s c.loop-place.invariant.2 c.loop-place-test.true
    c.stretch_at-stretch.ensures.stretch in (
      omega arith,
      AreSpans-wider 0 place (place + s.len) ts c.loop-place.invariant.1 (omega arith),
      Step-skipped forms text place ts s step c.in-Skipped.is,
    )

pub loop-place-preserved : goal.loop-place-preserved
loop-place-preserved c =
    let forms = forms_of c.args.language in
    let text = c.args.text.now in
    let place = c.loop-place.place in
    let ts = c.loop-place.tokens.items in
    let s = c.stretch_at-stretch.result in
    let step : Step forms text place ts s =
    Reads-step forms text place ts s c.loop-place.invariant.2 c.loop-place-test.true
    c.stretch_at-stretch.ensures.stretch in
    let t : Token = record { kind = c.in-Whole.kind; start = place; end = place + s.len } in
    let pushed : c.push.new.tokens.items ≡ ts ++ t ∷ [] = c.in_ok-push-in-Whole.ensures.ok in
    rw pushed (
      omega arith,
      AreSpans-push 0 place ts t c.loop-place.invariant.1 (omega arith)
          (omega arith),
      Step-token forms text place ts s c.in-Whole.kind step c.in-Whole.is,
    )

pub returns-in-Faulty-clause-fault : goal.returns-in-Faulty-clause-fault
returns-in-Faulty-clause-fault c =
    let forms = forms_of c.args.language in
    let text = c.args.text.now in
    let place = c.loop-place.place in
    let ts = c.loop-place.tokens.items in
    let s = c.stretch_at-stretch.result in
    let step : Step forms text place ts s =
    Reads-step forms text place ts s c.loop-place.invariant.2 c.loop-place-test.true
    c.stretch_at-stretch.ensures.stretch in
    rw c.fault_from.ensures
    (inr (Step-fault forms text place ts s c.in-Faulty.fault step c.in-Faulty.is))

pub returns-clause-tokens : goal.returns-clause-tokens
returns-clause-tokens c =
    let forms = forms_of c.args.language in
    let text = c.args.text.now in
    let ts = c.loop-place.tokens.items in
    let read : lexed forms text ≡ Ok ts =
    Reads-end forms text c.loop-place.place ts c.loop-place.invariant.2 c.loop-place-test.false
    in
    IfOk_from c.new.result c.new.ensures.ok (λ l is. read
    ∙ ap (λ (m : Lexed). Ok m.tokens) (sym is))

pub returns-clause-spans : goal.returns-clause-spans
returns-clause-spans c =
    let text = c.args.text.now in
    let ts = c.loop-place.tokens.items in
    let spans : AreSpans 0 (length text) ts =
    AreSpans-wider 0 c.loop-place.place (length text) ts c.loop-place.invariant.1 (omega arith) in
    IfOk_from c.new.result c.new.ensures.ok (λ l is. rw is spans)
