use Rattle.std.proofs.Common.{◌≡◌, ◌++◌, ap, sym, List, ℕ, length, refl, flat_map}
use Rattle.std.proofs.lemmas.Result.{err_from_is_err_and}
use Rattle.sms_script.specs.Transcript.Lines.{EntryValue, entry_line, store_line}
use Rattle.sms_script.specs.Transcript.{sent_lines}
use Rattle.sms_script.specs.Play.Runs.{statuses_at, store_at}
use Rattle.sms_script.proofs.PutLemmas.{three_left, sent_lines_end, store_line_ends, left_more, left_fault, left_last}
use Rattle.sms_script.proofs.playing.end.put_phone.Goals as goal

pub returns-in_err-put_statuses-clause-puts : goal.returns-in_err-put_statuses-clause-puts
returns-in_err-put_statuses-clause-puts g c =
    let p = err_from_is_err_and c.from_residual.result c.from_residual.ensures.1 in
    let store : List EntryValue = store_at (g.N.Network.conduct.ends c.args.network.now) c.args.phone in
    let xs : List ℕ = sent_lines c.args.name.now 1 (statuses_at (g.N.Network.conduct.ends c.args.network.now) c.args.phone) in
    let ys : List ℕ = store_line c.args.name.now (length store) in
    let zs : List ℕ = flat_map entry_line store in
    rw (p.1, p.2) (left_fault _ _ _ _ _ xs (ys ++ zs) c.in_err-put_statuses.field-0.0 refl (three_left _ xs ys zs) c.in_err-put_statuses.ensures.puts)

pub returns-in_err-put_store-clause-puts : goal.returns-in_err-put_store-clause-puts
returns-in_err-put_store-clause-puts g c =
    let p = err_from_is_err_and c.from_residual-in_err-put_store.result c.from_residual-in_err-put_store.ensures.1 in
    let store : List EntryValue = store_at (g.N.Network.conduct.ends c.args.network.now) c.args.phone in
    let xs : List ℕ = sent_lines c.args.name.now 1 (statuses_at (g.N.Network.conduct.ends c.args.network.now) c.args.phone) in
    let ys : List ℕ = store_line c.args.name.now (length store) in
    let zs : List ℕ = flat_map entry_line store in
    let told : List ℕ = store_line c.args.name.now c.stored.result in
    let line : ys ≡ told = ap (λ (n : ℕ). store_line c.args.name.now n) (sym c.stored.ensures) in
    rw (p.1, p.2) (left_fault _ _ _ _ _ told zs c.in_err-put_store.field-0.0 (ap (λ (l : List ℕ). l ++ zs) line) (left_more _ _ _ _ _ xs (ys ++ zs) (sent_lines_end c.args.name.now 1 (statuses_at (g.N.Network.conduct.ends c.args.network.now) c.args.phone)) refl (three_left _ xs ys zs) c.in_ok-put_statuses.ensures.puts) c.in_err-put_store.ensures.puts)

pub returns-clause-puts : goal.returns-clause-puts
returns-clause-puts g c =
    let store : List EntryValue = store_at (g.N.Network.conduct.ends c.args.network.now) c.args.phone in
    let xs : List ℕ = sent_lines c.args.name.now 1 (statuses_at (g.N.Network.conduct.ends c.args.network.now) c.args.phone) in
    let ys : List ℕ = store_line c.args.name.now (length store) in
    let zs : List ℕ = flat_map entry_line store in
    let told : List ℕ = store_line c.args.name.now c.stored.result in
    let line : ys ≡ told = ap (λ (n : ℕ). store_line c.args.name.now n) (sym c.stored.ensures) in
    left_last _ _ _ _ zs c.put_entries.result (left_more _ _ _ _ _ told zs (store_line_ends c.args.name.now c.stored.result) (ap (λ (l : List ℕ). l ++ zs) line) (left_more _ _ _ _ _ xs (ys ++ zs) (sent_lines_end c.args.name.now 1 (statuses_at (g.N.Network.conduct.ends c.args.network.now) c.args.phone)) refl (three_left _ xs ys zs) c.in_ok-put_statuses.ensures.puts) c.in_ok-put_store.ensures.puts) c.put_entries.ensures.puts
