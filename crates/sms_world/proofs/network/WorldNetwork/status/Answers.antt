use Rattle.std.proofs.Common.{◌∙◌, sym, ap, option_map, Some}
use Rattle.sms_world.proofs.Networks.{status_at}
use Rattle.sms_world.specs.Words.{status_text}
use Rattle.sms_world.proofs.network.WorldNetwork.status.Goals as goal

pub returns-in_err-status : goal.returns-in_err-status
returns-in_err-status c =
    ap (option_map (λ word. word.now)) c.from_residual.ensures
    ∙ ap (option_map status_text) (sym c.in_err-status.was ∙ c.status.ensures.status)
    ∙ sym (status_at c.args.self.now.parties.phones c.args.phone c.args.text c.requires.text)

pub returns : goal.returns
returns c =
    ap Some c.status_text.ensures
    ∙ ap (option_map status_text) (sym c.in_ok-status.was ∙ c.status.ensures.status)
    ∙ sym (status_at c.args.self.now.parties.phones c.args.phone c.args.text c.requires.text)
