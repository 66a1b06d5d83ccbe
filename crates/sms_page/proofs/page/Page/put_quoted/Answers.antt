use Rattle.std.proofs.Common.{◌≡◌, length, ap, arith}
use Rattle.std.proofs.lemmas.List.{with_items_is}
use Rattle.sms_page.specs.Page.{quoted}
use Rattle.sms_page.proofs.PageLemmas.{Puts-room}
use Rattle.sms_page.proofs.page.Page.put_quoted.Goals as goal

pub returns : goal.returns
returns c =
    let inside = c.self.inside in
    let long : length c.put_quoted_at-self-inside.new.room ≡ inside.octets.len = omega (arith, c.put_quoted_at-self-inside.ensures.put.as_long, ap length c.as_mut_slice-room.ensures.value, inside.octets.ok.0) in
    rw (with_items_is inside.octets c.put_quoted_at-self-inside.new.room long)
    (Puts-room c.args.self.now _ c.put_quoted_at-self-inside.new.room (quoted c.args.has_comma c.args.octets.now c.args.has_colon) inside.count _ inside.is_cut c.self.view_is c.if-self.false (c.put_quoted_at-self-inside.ensures.moved)
    (rw c.as_mut_slice-room.ensures.value at c.put_quoted_at-self-inside.ensures.put))
