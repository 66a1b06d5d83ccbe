use Rattle.std.proofs.Common.{◌≡◌, [], ◌∷◌, length, refl, ap, arith}
use Rattle.std.proofs.lemmas.List.{with_items_is}
use Rattle.sms_page.proofs.PageLemmas.{Puts-room}
use Rattle.sms_page.proofs.page.Page.put_one.Goals as goal

pub returns : goal.returns
returns c =
    let inside = c.self.inside in
    let long : length c.put_octet.new.room ≡ inside.octets.len = omega (arith, c.put_octet.ensures.as_long, ap length c.as_mut_slice.ensures.value, inside.octets.ok.0) in
    rw (with_items_is inside.octets c.put_octet.new.room long)
    (Puts-room c.args.self.now _ c.put_octet.new.room (c.args.octet ∷ []) inside.count _ inside.is_cut c.self.view_is c.if-self.false (refl)
    (rw c.as_mut_slice.ensures.value at c.put_octet.ensures))
