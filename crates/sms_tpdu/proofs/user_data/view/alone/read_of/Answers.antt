use Rattle.std.proofs.Common.{◌≡◌, arith}
use Rattle.std.proofs.lemmas.Result.{err_from_is_err_and}
use Rattle.sms_field.specs.Field.{IsLawful}
use Rattle.sms_field.specs.declared.refusal.Refusal.TheVariants.{Memory, At}
use Rattle.sms_field.specs.Inside.ReadingLaws.{read_found, read_refused, read_exact, refused_without}
use Rattle.sms_tpdu.specs.UserData.Alone.{data_of}
use Rattle.sms_tpdu.specs.Inside.AloneLaws.{data_of_lawful}
use Rattle.sms_tpdu.specs.declared.fault.UnitFault.TheVariants.{Short}
use Rattle.sms_tpdu.proofs.user_data.view.alone.read_of.Goals as goal

pub returns-in_err-view-clause-seen : goal.returns-in_err-view-clause-seen
returns-in_err-view-clause-seen c =
    let p = err_from_is_err_and c.from_residual.result c.from_residual.ensures.1 in
    let f = c.in_err-view.field-0.0 in
    let law : IsLawful Short (data_of c.args.with_header c.args.alphabet c.args.count) = data_of_lawful c.args.with_header c.args.alphabet c.args.count c.args.count c.requires in
    rw (p.1, p.2) (record {
      found = tt;
      refused = read_refused _ _ law _ (λ i. omega (arith, c.type_inv.input i)) c.new-cursor.result c.alone_at.new.input c.new-cursor.ensures.place c.new-cursor.ensures.rest (At f.place f.why) c.in_err-view.ensures.read;
      exact = λ v n r.
          let none : At f.place f.why ≡ Memory = refused_without _ _ law _ (λ i. omega (arith, c.type_inv.input i)) c.new-cursor.result c.alone_at.new.input c.new-cursor.ensures.place c.new-cursor.ensures.rest v n r (At f.place f.why) c.in_err-view.ensures.read in
          absurd cc;
    })

pub returns-clause-seen : goal.returns-clause-seen
returns-clause-seen c =
    let law : IsLawful Short (data_of c.args.with_header c.args.alphabet c.args.count) = data_of_lawful c.args.with_header c.args.alphabet c.args.count c.args.count c.requires in
    record {
      found = read_found _ _ law _ (λ i. omega (arith, c.type_inv.input i)) c.new-cursor.result c.alone_at.new.input c.new-cursor.ensures.place c.new-cursor.ensures.rest _ _ c.place.ensures c.in_ok-view.ensures.read;
      refused = tt;
      exact = λ v n r. read_exact _ _ law _ (λ i. omega (arith, c.type_inv.input i)) c.new-cursor.result c.alone_at.new.input c.new-cursor.ensures.place c.new-cursor.ensures.rest v _ n _ r c.place.ensures c.in_ok-view.ensures.read;
    }
