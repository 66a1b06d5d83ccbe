use Rattle.std.proofs.Common.{◌≡◌, ◌+◌, ℕ, [], ◌∷◌, length, ap, sym, arith, length-append}
use Rattle.std.proofs.lemmas.List.{with_items_is}
use Rattle.sms_page.specs.Page.{named}
use Rattle.sms_page.proofs.PageLemmas.{Puts-room}
use Rattle.sms_page.proofs.page.Page.put_name.Goals as goal

pub returns : goal.returns
returns c =
    let inside = c.self.inside in
    let long : length c.put_name_at.new.room ≡ inside.octets.len = omega (arith, c.put_name_at.ensures.as_long, ap length c.as_mut_slice.ensures.value, inside.octets.ok.0) in
    rw (with_items_is inside.octets c.put_name_at.new.room long)
    (Puts-room c.args.self.now _ c.put_name_at.new.room (named c.args.name.now) inside.count _ inside.is_cut c.self.view_is c.if-self.false (ap (λ (n : ℕ). inside.count + n) (sym (length-append c.args.name.now (58 ∷ 32 ∷ []))))
    (rw c.as_mut_slice.ensures.value at c.put_name_at.ensures))
