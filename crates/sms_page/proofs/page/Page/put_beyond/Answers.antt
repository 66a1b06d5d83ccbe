use Rattle.std.proofs.Common.{◌≡◌, ◌++◌, List, ℕ, length, take, ap, ◌∙◌, arith}
use Rattle.std.proofs.lemmas.Bool.{cond-true}
use Rattle.sms_page.specs.Page.{PageValue}
use Rattle.sms_page.proofs.PageLemmas.{Puts-all}
use Rattle.sms_page.proofs.page.Page.put_beyond.Goals as goal

pub returns : goal.returns
returns c =
    let octets = c.args.octets.now in
    let ok = c.if-not-extend.false in
    let extended = c.extend.ensures ∙ cond-true _ _ _ ok ∙ ap (λ (l : List ℕ). l ++ octets) c.truncate.ensures.items in
    let size : c.len-self-inside.result ≡ length c.extend.new.room.items = omega (arith, c.len-self-inside.ensures, c.extend.new.room.ok.0) in
    Puts-all c.args.self.now _ octets c.requires
    (ap (λ (n : ℕ). take n c.make_ahead.new.octets.items) size ∙ c.make_ahead.ensures ∙ extended ∙ ap (λ (p : PageValue). p.octets ++ octets) c.self.view_is)
