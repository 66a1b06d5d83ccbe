use Rattle.std.proofs.Common.{◌≡◌, ◌++◌, ◌+◌, ◌<◌, ◌≤◌, ◌∙◌, ap, sym, List, ℕ, drop, length, arith, subst}
use Rattle.std.proofs.lemmas.Result.{err_from_is_err_and}
use Rattle.sms_script.proofs.PutLemmas.{Left, left_start, left_more, phone_lines_end, left_fault, left_end, phones_left, no_phones_left}
use Rattle.sms_script.specs.Play.Runs.{ended_at}
use Rattle.sms_script.specs.Transcript.{Ended, phone_lines, final_lines}
use Rattle.sms_script.proofs.playing.end.put_phones.Goals as goal

pub returns-in_err-put_phone-clause-puts : goal.returns-in_err-put_phone-clause-puts
returns-in_err-put_phone-clause-puts g c =
    let p = err_from_is_err_and c.from_residual.result c.from_residual.ensures.1 in
    let ends : List Ended = g.N.Network.conduct.ends c.args.network.now in
    let names : List (List ℕ) = c.args.script.now.known.names in
    let rest : List ℕ = final_lines (drop (c.loop-phone.phone + 1) names) (drop (c.loop-phone.phone + 1) ends) in
    let text : List ℕ = phone_lines c.name.result.now (ended_at ends c.loop-phone.phone) in
    let same : length names ≡ length ends = c.addresses-phone-end.ensures.names ∙ c.requires.phones in
    let counted = c.addresses-phone-end.ensures.names in
    let listed = ap length c.addresses-phone-end.ensures.addresses in
    let below : c.loop-phone.phone < length names = omega (arith, counted, listed) in
    let e = phones_left names ends c.loop-phone.phone below same in
    rw (p.1, p.2) (left_fault _ _ _ _ _ text rest c.in_err-put_phone.field-0.0 (e ∙ ap (λ (n : List ℕ). phone_lines n (ended_at ends c.loop-phone.phone) ++ rest) (sym c.name.ensures)) c.loop-phone.invariant.left c.in_err-put_phone.ensures.puts)

pub loop-phone-init : goal.loop-phone-init
loop-phone-init g c = record { works = c.requires.works; left = left_start _ _ }

pub loop-phone-preserved : goal.loop-phone-preserved
loop-phone-preserved g c =
    let ends : List Ended = g.N.Network.conduct.ends c.args.network.now in
    let names : List (List ℕ) = c.args.script.now.known.names in
    let rest : List ℕ = final_lines (drop (c.loop-phone.phone + 1) names) (drop (c.loop-phone.phone + 1) ends) in
    let text : List ℕ = phone_lines c.name.result.now (ended_at ends c.loop-phone.phone) in
    let same : length names ≡ length ends = c.addresses-phone-end.ensures.names ∙ c.requires.phones in
    let counted = c.addresses-phone-end.ensures.names in
    let listed = ap length c.addresses-phone-end.ensures.addresses in
    let below : c.loop-phone.phone < length names = omega (arith, counted, listed) in
    let e = phones_left names ends c.loop-phone.phone below same in
    record {
      works = c.in_ok-put_phone.ensures.failed;
      left = left_more _ _ _ _ _ text rest (phone_lines_end c.name.result.now (ended_at ends c.loop-phone.phone)) (e ∙ ap (λ (n : List ℕ). phone_lines n (ended_at ends c.loop-phone.phone) ++ rest) (sym c.name.ensures)) c.loop-phone.invariant.left c.in_ok-put_phone.ensures.puts;
    }

pub returns-clause-puts : goal.returns-clause-puts
returns-clause-puts g c =
    let ends : List Ended = g.N.Network.conduct.ends c.args.network.now in
    let names : List (List ℕ) = c.args.script.now.known.names in
    let counted = c.addresses-phone-end.ensures.names in
    let listed = ap length c.addresses-phone-end.ensures.addresses in
    let past : length names ≤ c.loop-phone.phone = omega (arith, counted, listed) in
    let P = λ (rest : List ℕ). Left (g.K.Sink.contents c.args.sink.now) (g.K.Sink.contents c.loop-phone.sink) (final_lines names ends) rest in
    left_end _ _ _ (subst P (no_phones_left names ends c.loop-phone.phone past) c.loop-phone.invariant.left)
