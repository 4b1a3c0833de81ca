use Rattle.std.proofs.lemmas.Bool.{false≢true}
use Rattle.c_names.specs.Scopes.{find, scopes_of}
use Rattle.c_judge.proofs.PartTrees.{assigned_is_other, linked_is_other, two_are_other}
use Rattle.c_judge.proofs.parts.+parts.Goals as goal

pub chain_part-returns-then-not-is_empty : goal.chain_part-returns-then-not-is_empty
chain_part-returns-then-not-is_empty t c = linked_is_other (find (scopes_of c.args.scopes.now)) c.args.chain.now (λ h. false≢true (c.if-not-is_empty.ensures.1 h))

pub expr_part-returns-then-not-is_empty : goal.expr_part-returns-then-not-is_empty
expr_part-returns-then-not-is_empty t c = assigned_is_other (find (scopes_of c.args.scopes.now)) c.args.e.now (λ h. false≢true (c.if-not-is_empty.ensures.1 h))

pub index_behind-returns-in_default : goal.index_behind-returns-in_default
index_behind-returns-in_default t c = λ p. two_are_other (find (scopes_of c.args.scopes.now)) c.args.suffixes.now p c.in_default.len_at_least
