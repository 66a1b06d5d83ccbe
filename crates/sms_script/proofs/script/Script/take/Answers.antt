use Rattle.std.proofs.Common.{rules, ◌≡◌, ◌∙◌, ap, sym, subst, Ok, Err, Option, Result}
use Rattle.std.proofs.lemmas.Result.{err_from_is_err_and}
use Rattle.sms_script.proofs.MemoryLemmas.{may_run_out}
use Rattle.sms_script.specs.Meaning.{meaning}
use Rattle.sms_script.specs.Script.{TakesLine}
use Rattle.sms_script.specs.Script.Settings.{SettingsValue}
use Rattle.sms_script.specs.declared.fault.PlayFault.{PlayFault}
use Rattle.sms_script.specs.declared.meaning.event.Event.{Event}
use Rattle.sms_script.proofs.script.Script.take.Goals as goal

pub returns-in-Err-Script : goal.returns-in-Err-Script
returns-in-Err-Script c = search rules

pub returns-in_err-take_statement-in-Ok : goal.returns-in_err-take_statement-in-Ok
returns-in_err-take_statement-in-Ok c =
    let p = err_from_is_err_and c.from_residual.result c.from_residual.ensures.1 in
    let says : meaning c.args.self.now.known c.args.line.now ≡ Ok c.in-Ok.statement = subst (λ (s : SettingsValue). meaning s.known c.args.line.now ≡ Ok c.in-Ok.statement) c.self.view_is c.in-Ok.ensures.means in
    record {
      takes = subst (λ (r : Result (Option Event) PlayFault). TakesLine c.args.self.now c.take_statement.new.self c.args.line.now r) (sym (p.1 ∙ ap Err p.2))
          (c.in_err-take_statement-in-Ok.ensures.kept, may_run_out c.args.self.now.known c.args.line.now c.in-Ok.statement says c.in_err-take_statement-in-Ok.ensures.memory);
    }
