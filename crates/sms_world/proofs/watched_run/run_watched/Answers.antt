use Rattle.sms_world.proofs.watched_run.run_watched.Goals as goal

pub returns-in-Ok-clause-runs : goal.returns-in-Ok-clause-runs
returns-in-Ok-clause-runs c = c.in-Ok.ensures.goes c.args.limits c.args.phones.now c.in_ok-world.ensures.begins
