use Rattle.std.proofs.Common.{rules}
use Rattle.std.proofs.lemmas.List.Sorted.{answers_always}
use Rattle.c_memory.proofs.Searched.{searched}
use Rattle.c_memory.proofs.objects.place_of.Goals as goal

pub returns : goal.returns
returns c =
    let facts = c.binary_search_by_key.ensures in
    let by_key =
    facts.position (λ row. row.serial) (answers_always _ _ _ (λ f a r g called. search rules))
    in
    rw c.ok.ensures.value (searched _ c.args.serial _ c.requires facts.bound by_key)
