-- What sinks took, one text after another.
use Rattle.std.proofs.Common.{ℕ, List, ◌++◌, Option, Some, Result, Ok, Err, OnOk, OnErr, length, take, take_all, sym, ap, subst, ◌∙◌, append_assoc, append-nil, arith}
use Rattle.dpi_ports.specs.Told.{Takes, TakesFront}
use Rattle.dpirun.specs.Ends.{TakesFronts}

-- a whole text is a front of itself
pub front_whole : (old new : Option (List ℕ)) (p : List ℕ) → Takes old new p → TakesFront old new p
front_whole old new p h = record {
  count = length p;
  takes = let P : List ℕ → Type 0 = λ q. Takes old new q in subst P (sym (take_all (length p) p (omega arith))) h;
}

-- a write that is tried takes a front, whatever it answers
pub front_tried : {T E : Type 0} (r : Result T E) (old new : Option (List ℕ)) (p : List ℕ)
    → OnOk r (Takes old new p) → OnErr r (TakesFront old new p) → TakesFront old new p
front_tried (Ok v) old new p ok err = front_whole old new p ok
front_tried (Err e) old new p ok err = err

-- a front of one text, and then of another
pub fronts : (old mid new : Option (List ℕ)) (p q : List ℕ)
    → TakesFront old mid p → TakesFront mid new q → TakesFronts old new p q
fronts old mid new p q h k = record {
  count = h.count;
  count_after = k.count;
  takes = record {
    after = λ before is. k.takes.after (before ++ take h.count p) (h.takes.after before is) ∙ ap Some (append_assoc before (take h.count p) (take k.count q));
  };
}

-- nothing is a front of any text
pub front_nothing : (told : Option (List ℕ)) (p : List ℕ) → TakesFront told told p
front_nothing told p = record {
  count = 0;
  takes = record { after = λ before is. is ∙ ap Some (sym (append-nil before)) };
}
