use Rattle.std.proofs.Common.{Err, ap, subst, sym}
use Rattle.dpirun.specs.Answer.{IsRefusedAs}
use Rattle.dpirun.specs.declared.refusal.Refusal.{Refusal}
use Rattle.dpirun.proofs.Readings.{too_long_is}
use Rattle.dpirun.proofs.reading.text_of.Goals as goal

pub returns-in-Err-TooLong-clause-refused : goal.returns-in-Err-TooLong-clause-refused
returns-in-Err-TooLong-clause-refused g c =
    let P : Refusal → Type 0 = λ r. IsRefusedAs (g.F.Files.told c.args.files.now) c.args.name.now r.line r.column r.code in
    subst P (sym c.too_long.ensures) (too_long_is _ _ (c.in-Err-TooLong.ensures.too_long (ap Err c.in-Err-TooLong.field-0-is)))
