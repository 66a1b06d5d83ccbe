use Rattle.std.proofs.Common.{◌+◌, ◌≤◌, sym, drop, flat_map, arith, List, ℕ, length, subst}
use Rattle.std.proofs.lemmas.Result.{err_from_is_err_and}
use Rattle.sms_script.proofs.PutLemmas.{Left, left_start, left_more, entry_line_ends, left_fault, left_end, entries_left, no_entries_left}
use Rattle.sms_script.specs.Play.Runs.{store_at}
use Rattle.sms_script.specs.Transcript.Lines.{EntryValue, entry_line}
use Rattle.sms_script.specs.Transcript.Shown.{stored}
use Rattle.sms_script.proofs.playing.end.put_entries.Goals as goal

pub loop-place-init : goal.loop-place-init
loop-place-init g c = record { works = c.requires.works; left = left_start _ _ }

pub loop-place-preserved : goal.loop-place-preserved
loop-place-preserved g c =
    let all : List EntryValue = store_at (g.N.Network.conduct.ends c.args.network.now) c.args.phone in
    let rest : List ℕ = flat_map entry_line (drop (c.loop-place.place + 1) all) in
    record {
      works = c.in_ok-put_entry.ensures.failed;
      left = left_more _ _ _ _ _ (entry_line (stored c.in-Some.entry)) rest (entry_line_ends (stored c.in-Some.entry)) (entries_left all c.loop-place.place (stored c.in-Some.entry) (sym c.in-Some.ensures)) c.loop-place.invariant.left c.in_ok-put_entry.ensures.puts;
    }

pub returns-in_err-put_entry-clause-puts : goal.returns-in_err-put_entry-clause-puts
returns-in_err-put_entry-clause-puts g c =
    let p = err_from_is_err_and c.from_residual.result c.from_residual.ensures.1 in
    let all : List EntryValue = store_at (g.N.Network.conduct.ends c.args.network.now) c.args.phone in
    let rest : List ℕ = flat_map entry_line (drop (c.loop-place.place + 1) all) in
    rw (p.1, p.2) (left_fault _ _ _ _ _ (entry_line (stored c.in-Some.entry)) rest c.in_err-put_entry.field-0.0 (entries_left all c.loop-place.place (stored c.in-Some.entry) (sym c.in-Some.ensures)) c.loop-place.invariant.left c.in_err-put_entry.ensures.puts)

pub returns-clause-puts : goal.returns-clause-puts
returns-clause-puts g c =
    let all : List EntryValue = store_at (g.N.Network.conduct.ends c.args.network.now) c.args.phone in
    let count = c.stored-place-end.ensures in
    let past : length all ≤ c.loop-place.place = omega (arith, count) in
    let P = λ (rest : List ℕ). Left (g.K.Sink.contents c.args.sink.now) (g.K.Sink.contents c.loop-place.sink) (flat_map entry_line all) rest in
    left_end _ _ _ (subst P (no_entries_left all c.loop-place.place past) c.loop-place.invariant.left)
