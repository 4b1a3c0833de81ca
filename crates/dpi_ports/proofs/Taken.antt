-- What a sink took, over several writes.
use Rattle.std.proofs.Common.{◌≡◌, ℕ, ◌+◌, ◌-◌, List, [], ◌++◌, Option, Some, length, take, drop, sym, ap, subst, ◌∙◌, append_assoc, append-nil, take-add, take_all, length-drop, arith}
use Rattle.dpi_ports.specs.Told.{Takes}

-- nothing was taken where nothing changed
pub takes_nothing : (told : Option (List ℕ)) → Takes told told []
takes_nothing told = record { after = λ before is. is ∙ ap Some (sym (append-nil before)) }

-- one piece, and then another
pub takes_both : (old mid new : Option (List ℕ)) (first second : List ℕ)
    → Takes old mid first → Takes mid new second → Takes old new (first ++ second)
takes_both old mid new first second h k = record {
  after = λ before is. k.after (before ++ first) (h.after before is) ∙ ap Some (append_assoc before first second);
}

-- the first bytes of a piece, and then some that follow in it
pub takes_next : (old mid new : Option (List ℕ)) (piece : List ℕ) (i n : ℕ)
    → Takes old mid (take i piece) → Takes mid new (take n (take (length piece - i) (drop i piece)))
    → Takes old new (take (i + n) piece)
takes_next old mid new piece i n h k =
    let rest : take (length piece - i) (drop i piece) ≡ drop i piece =
    take_all (length piece - i) (drop i piece) (omega (arith, length-drop i piece)) in
    let k' : Takes mid new (take n (drop i piece)) =
    let P : List ℕ → Type 0 = λ ys. Takes mid new (take n ys) in subst P rest k in
    let P : List ℕ → Type 0 = λ ys. Takes old new ys in
    subst P (sym (take-add i n piece)) (takes_both old mid new _ _ h k')
