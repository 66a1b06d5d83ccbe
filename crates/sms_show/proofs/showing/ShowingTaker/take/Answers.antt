use Rattle.std.proofs.Common.{Bool, not, ◌||◌, refl, sym, ap, ◌∙◌, subst}
use Rattle.sms_show.specs.Showing.{ShowingValue, ShowsLine, gap}
use Rattle.sms_show.proofs.Telling.{shows_line}
use Rattle.sms_show.proofs.showing.ShowingTaker.take.Goals as goal

pub returns : goal.returns
returns c = record {
  taken = subst (λ (old : ShowingValue). ShowsLine old c.args.number c.args.page.now
      (record { form = c.self.inside.shown.form; has_begun = c.self.inside.has_begun || not c.is_cut.result }) c.put_answer.new.page)
      c.self.view_is
      (shows_line (record { form = c.self.inside.shown.form; has_begun = c.self.inside.has_begun })
      (record { form = c.self.inside.shown.form; has_begun = c.self.inside.has_begun || not c.is_cut.result })
      c.args.number c.is_parted.result c.args.page.now c.put_wanted.new.self c.put_answer.new.page
      c.put_wanted.ensures (c.is_parted.ensures ∙ ap (λ (s : ShowingValue). gap s.form s.has_begun) (sym c.self.view_is)) c.put_answer.ensures refl
      (ap (λ (b : Bool). c.self.inside.has_begun || not b) c.is_cut.ensures));
}
