use Rattle.std.proofs.Common.{true, false, sym, refl, ◌∙◌}
use Rattle.std.proofs.lemmas.List.{append-nil}
use Rattle.hex.specs.Hex.{encode_upper}
use Rattle.sms_page.specs.Page.{quoted}
use Rattle.sms_page.specs.Object.{value}
use Rattle.sms_page.proofs.PageLemmas.{Puts-then, Puts-same}
use Rattle.sms_page.proofs.ObjectLemmas.{Writes-token, and_true, quoted_is}
use Rattle.sms_page.proofs.object.Object.octets.Goals as goal

pub returns : goal.returns
returns c = Writes-token c.args.self.now c.self.inside.page c.put_one-2.new.self c.self.inside.has_value true (c.self.inside.has_value) (value (quoted false (encode_upper c.args.octets.now) false)) c.self.view_is (and_true c.self.inside.has_value) refl (Puts-same (sym (append-nil _) ∙ quoted_is c.self.inside.has_value (encode_upper c.args.octets.now) false) (Puts-then _ _ (Puts-then _ _ (Puts-then _ _ c.put_wanted.ensures c.put_one.ensures) c.put_digits.ensures) c.put_one-2.ensures))
