use Rattle.std.proofs.Common.{◌+◌, ◌-◌, ◌++◌, List, ℕ, length, take, ap, ◌∙◌}
use Rattle.sms_saved.proofs.Placed.{first_written}
use Rattle.sms_saved.proofs.putting.put_behind.Goals as goal

pub returns-clause-put : goal.returns-clause-put
returns-clause-put g c =
    first_written c.args.room.now c.copy_from_slice.new.self c.args.done (c.args.done + g.row.N - c.args.done) g.row.N c.args.count
    (ap length c.copy_from_slice.ensures.after ∙ c.told-octets) c.requires.few c.requires.room
    ∙ ap (λ (l : List ℕ). take c.args.done c.args.room.now ++ take c.args.count l) c.copy_from_slice.ensures.after
