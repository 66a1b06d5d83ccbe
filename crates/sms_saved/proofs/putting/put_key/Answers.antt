use Rattle.std.proofs.Common.{◌≡◌, ℕ, ◌+◌, ◌-◌, ◌≤◌, List, length, drop, ap, ◌∙◌, length-append, arith}
use Rattle.std.proofs.lemmas.List.{length-take, length-drop}
use Rattle.sms_saved.proofs.Placed.{kept_behind}
use Rattle.sms_saved.proofs.putting.put_key.Goals as goal

pub returns : goal.returns
returns c =
    let start : ℕ = c.len-start.result in
    let all : List ℕ = c.deref_mut.result.now in
    let is = c.deref_mut.ensures.value ∙ c.in_ok-extend_from_slice.ensures.items in
    let same : start ≡ length c.args.out.now.items = omega arith in
    let size : length all ≡ length c.args.out.now.items + 43 = ap length is ∙ length-append c.args.out.now.items _ in
    let few : c.spell_key-count.result ≤ length c.spell_key-count.new.room =
    omega (arith, size, same, c.spell_key-count.ensures.few, c.spell_key-count.ensures.size, length-take (length all - start) (drop start all), length-drop start all) in
    c.truncate.ensures.items
    ∙ kept_behind c.args.out.now.items _ all c.spell_key-count.new.room _ _ _ start c.spell_key-count.result c.extend_from_slice.new.self.len
    is same few (omega (arith, c.in_ok-extend_from_slice.ensures.len, c.len-start.ensures, c.spell_key-count.ensures.few)) c.spell_key-count.ensures.spelled
