use Rattle.std.proofs.Common.{◌≡◌, length, ap, arith}
use Rattle.std.proofs.lemmas.List.{with_items_is}
use Rattle.sms_page.proofs.PageLemmas.{Puts-room}
use Rattle.sms_page.proofs.page.Page.put_few.Goals as goal

pub returns : goal.returns
returns g c =
    let inside = c.self.inside in
    let long : length c.put_once.new.room ≡ inside.octets.len = omega (arith, c.put_once.ensures.put.as_long, ap length c.as_mut_slice.ensures.value, inside.octets.ok.0) in
    rw (with_items_is inside.octets c.put_once.new.room long)
    (Puts-room c.args.self.now _ c.put_once.new.room (c.args.octets.now) inside.count _ inside.is_cut c.self.view_is c.if-self.false (omega arith)
    (rw c.as_mut_slice.ensures.value at c.put_once.ensures.put))
