use Rattle.std.proofs.Common.{◌≡◌, ◌+◌, ◌-◌, ◌≤◌, sym, drop, arith, List, ℕ, length, subst}
use Rattle.std.proofs.lemmas.Result.{err_from_is_err_and}
use Rattle.sms_script.proofs.PutLemmas.{Left, left_start, left_more, sent_line_ends, left_fault, left_end, statuses_left, no_statuses_left}
use Rattle.sms_script.specs.Play.Runs.{statuses_at}
use Rattle.sms_script.specs.Transcript.{sent_lines}
use Rattle.sms_script.specs.Transcript.Lines.{sent_line}
use Rattle.sms_script.proofs.playing.end.put_statuses.Goals as goal

pub loop-place-init : goal.loop-place-init
loop-place-init g c = record { works = c.requires.works; left = left_start _ _ }

pub loop-place-preserved : goal.loop-place-preserved
loop-place-preserved g c =
    let all : List (List ℕ) = statuses_at (g.N.Network.conduct.ends c.args.network.now) c.args.phone in
    let is : c.loop-place.place + 1 - 1 ≡ c.loop-place.place = omega arith in
    let there = sym (rw is at c.in-Some.ensures) in
    let rest : List ℕ = sent_lines c.args.name.now (c.loop-place.place + 1 + 1) (drop (c.loop-place.place + 1) all) in
    record {
      works = c.in_ok-put_status.ensures.failed;
      left = left_more _ _ _ _ _ (sent_line c.args.name.now (c.loop-place.place + 1) c.in-Some.word.now) rest (sent_line_ends c.args.name.now (c.loop-place.place + 1) c.in-Some.word.now) (statuses_left c.args.name.now all c.loop-place.place c.in-Some.word.now there) c.loop-place.invariant.left c.in_ok-put_status.ensures.puts;
    }

pub returns-in_err-put_status-clause-puts : goal.returns-in_err-put_status-clause-puts
returns-in_err-put_status-clause-puts g c =
    let p = err_from_is_err_and c.from_residual.result c.from_residual.ensures.1 in
    let all : List (List ℕ) = statuses_at (g.N.Network.conduct.ends c.args.network.now) c.args.phone in
    let is : c.loop-place.place + 1 - 1 ≡ c.loop-place.place = omega arith in
    let there = sym (rw is at c.in-Some.ensures) in
    let rest : List ℕ = sent_lines c.args.name.now (c.loop-place.place + 1 + 1) (drop (c.loop-place.place + 1) all) in
    rw (p.1, p.2) (left_fault _ _ _ _ _ (sent_line c.args.name.now (c.loop-place.place + 1) c.in-Some.word.now) rest c.in_err-put_status.field-0.0 (statuses_left c.args.name.now all c.loop-place.place c.in-Some.word.now there) c.loop-place.invariant.left c.in_err-put_status.ensures.puts)

pub returns-clause-puts : goal.returns-clause-puts
returns-clause-puts g c =
    let all : List (List ℕ) = statuses_at (g.N.Network.conduct.ends c.args.network.now) c.args.phone in
    let count = c.typed-place-end.ensures in
    let past : length all ≤ c.loop-place.place = omega (arith, count) in
    let P = λ (rest : List ℕ). Left (g.K.Sink.contents c.args.sink.now) (g.K.Sink.contents c.loop-place.sink) (sent_lines c.args.name.now 1 all) rest in
    left_end _ _ _ (subst P (no_statuses_left c.args.name.now all c.loop-place.place past) c.loop-place.invariant.left)
