use Rattle.std.proofs.Common.{◌≡◌, ◌+◌, ◌-◌, ◌<◌, ◌≤◌, length, Option, Some, refl, sym, ap, ◌∙◌, arith}
use Rattle.std.specs.Option.{unwrap_or}
use Rattle.std.specs.VecDeque.{deque_len}
use Rattle.std.proofs.lemmas.Option.{slice_get_read}
use Rattle.sms_world.proofs.Backwards.{nth_back, nth_beyond}
use Rattle.sms_world.proofs.traces.number_of.Goals as goal

pub returns-then-text-len : goal.returns-then-text-len
returns-then-text-len c =
    let l = c.len.ensures in
    let t = c.if-text-len.true in
    sym (ap (λ (o : Option _). unwrap_or o 0) (nth_beyond c.args.numbers.now.items c.args.text (omega (arith, l, t))))

pub returns : goal.returns
returns c =
    let l = c.len.ensures in
    let k = c.len-2.ensures in
    let t = c.if-text-len.false in
    sym (ap (λ (o : Option _). unwrap_or o 0) (nth_back c.args.numbers.now.items c.args.text (c.len-2.result - 1 - c.args.text) (omega (arith, l, k, t))
    ∙ slice_get_read c.args.numbers.now.items (length c.args.numbers.now.items) (c.len-2.result - 1 - c.args.text) c.index.result.now refl (omega (arith, l, k, t)) c.index.ensures))
