use Rattle.std.proofs.Common.{◌≡◌, ◌≤◌, ◌<◌, ◌∙◌, ◌++◌, ℕ, List, [], Some, Bor, All, length, get_or, map, slice_get, ap, subst, sym, option_map, drop, suc, add-one, arith}
use Rattle.std.proofs.lemmas.List.{length-map}
use Rattle.std.proofs.lemmas.List.Elements.{All-push}
use Rattle.dpi_lex.specs.Words.{Word, words_of}
use Rattle.dpirun.specs.Form.{bytes_at, hole_of, holes_of}
use Rattle.dpirun.proofs.Holes.{holes_of-lengths, holes_of-next, holes_of-stops, holes_of-whole, word_is, text_at, found_more, found_same}
use Rattle.dpirun.proofs.form.holes.Goals as goal
use Rattle.dpirun.proofs.form.holes.Goals.{then-is_open+in_ok-push, else-is_open}

pub returns-then-len-form-clause-found : goal.returns-then-len-form-clause-found
returns-then-len-form-clause-found c =
    let words : length (words_of c.args.tokens.now) ≡ length c.args.tokens.now.tokens = simp length-map in
    let forms : length (map (λ word. word.now) c.args.form.now) ≡ length c.args.form.now = simp length-map in
    sym (holes_of-lengths _ _ (λ e. c.if-len-form.true (c.len.ensures.count ∙ sym words ∙ sym e ∙ forms)))

pub returns-then-not-fits-clause-found : goal.returns-then-not-fits-clause-found
returns-then-not-fits-clause-found c =
    let i : ℕ = c.loop-i.i in
    let none : Bor (List ℕ) = record { ref_ptr = (0, 0); now = [] } in
    let w : Word = record { kind = c.get.result.kind; bytes = c.bytes.result.now } in
    sym (holes_of-stops (map (λ word. word.now) c.args.form.now) (words_of c.args.tokens.now) i (get_or c.args.form.now i none).now w
    _ (text_at c.args.form.now i none c.loop-i-test.true) (word_is _ _ _ c.get.ensures.kind c.bytes.ensures.bytes)
    (sym c.fits.ensures ∙ c.if-not-fits.true) c.loop-i.invariant.read)

pub loop-i-preserved : goal.loop-i-preserved
loop-i-preserved c =
    let i : ℕ = c.loop-i.i in
    let none : Bor (List ℕ) = record { ref_ptr = (0, 0); now = [] } in
    let w : Word = record { kind = c.get.result.kind; bytes = c.bytes.result.now } in
    let ws = words_of c.args.tokens.now in
    let forms : List (List ℕ) = map (λ word. word.now) c.args.form.now in
    let form : List ℕ = (get_or c.args.form.now i none).now in
    let is : slice_get ws i ≡ Some w = word_is _ _ _ c.get.ensures.kind c.bytes.ensures.bytes in
    let next = holes_of-next forms ws i form w _ (text_at c.args.form.now i none c.loop-i-test.true) is
    (sym c.fits.ensures ∙ c.if-not-fits.false) c.loop-i.invariant.read in
    let same : map (bytes_at ws) c.if-is_open.found.items ≡ map (bytes_at ws) c.loop-i.found.items ++ hole_of form w =
    elim c.if-is_open.branch [
      | then-is_open+in_ok-push v ↦
          found_more ws c.loop-i.found.items c.if-is_open.found.items i form w is
          (ap (λ f. f.items) v.found-is ∙ v.in_ok-push.ensures.items) (sym c.is_open.ensures ∙ v.if-is_open.true)
      | else-is_open v ↦
          ap (λ f. map (bytes_at ws) f.items) v.found-is
          ∙ found_same ws c.loop-i.found.items form w (sym c.is_open.ensures ∙ v.if-is_open.false)
    ] in
    let P : List (List ℕ) → Type 0 =
    λ found. holes_of forms ws ≡ option_map (λ more. found ++ more) (holes_of (drop (suc i) forms) (drop (suc i) ws)) in
    let inside : All (λ k. k < length c.args.tokens.now.tokens) c.if-is_open.found.items =
    elim c.if-is_open.branch [
      | then-is_open+in_ok-push v ↦
          subst (λ (f : List ℕ). All (λ k. k < length c.args.tokens.now.tokens) f)
          (sym (ap (λ f. f.items) v.found-is ∙ v.in_ok-push.ensures.items))
          (All-push (λ k. k < length c.args.tokens.now.tokens) c.loop-i.found.items i c.loop-i.invariant.inside (omega arith))
      | else-is_open v ↦ subst (λ (f : List ℕ). All (λ k. k < length c.args.tokens.now.tokens) f) (sym (ap (λ f. f.items) v.found-is)) c.loop-i.invariant.inside
    ] in
    record { read = rw add-one (subst P (sym same) next); inside = inside }

pub returns-clause-found : goal.returns-clause-found
returns-clause-found c =
    let ws = words_of c.args.tokens.now in
    let forms : List (List ℕ) = map (λ word. word.now) c.args.form.now in
    let words_end : length ws ≤ c.loop-i.i = simp length-map (omega arith) in
    let forms_end : length forms ≤ c.loop-i.i = simp length-map (omega arith) in
    sym (holes_of-whole forms ws c.loop-i.i _ forms_end words_end c.loop-i.invariant.read)
