-- `print::Page::file` meets its contract: read's refusal, or the week that its buffers hold.
use mathlib.Core.Path.{refl, sym, ◌∙◌, ap}
use native.Mathlib.Omega.{arith}
use lib.Seq.{length-take-le}
use Rattle.week.proofs.Numbered.{refused, refused_some}
use Rattle.print.specs.Text.{refused_line}
use Rattle.print.proofs.Put.{put_as}
use Rattle.print.proofs.Sizes.{refused_fits}
use Rattle.print.proofs.File.{words_most, read_refused, taken, fine_taken, text_taken, domain_within, loss_within, give_within, ties_within}
use Rattle.print.proofs.Page.file.Goals as goal

pub slice_bounds-domain-end : goal.slice_bounds-domain-end
slice_bounds-domain-end c = domain_within (taken _ _ _ _ _ c.in-Ok.is c.read.ensures (record { domain = refl; loss = refl; give = refl; ties = refl }))

pub slice_bounds-week-end : goal.slice_bounds-week-end
slice_bounds-week-end c = sym (length-take-le _ _ (domain_within (taken _ _ _ _ _ c.in-Ok.is c.read.ensures (record { domain = refl; loss = refl; give = refl; ties = refl }))))

pub slice_bounds-loss-end : goal.slice_bounds-loss-end
slice_bounds-loss-end c = loss_within (taken _ _ _ _ _ c.in-Ok.is c.read.ensures (record { domain = refl; loss = refl; give = refl; ties = refl }))

pub slice_bounds-week-end-in-Ok : goal.slice_bounds-week-end-in-Ok
slice_bounds-week-end-in-Ok c = sym (length-take-le _ _ (loss_within (taken _ _ _ _ _ c.in-Ok.is c.read.ensures (record { domain = refl; loss = refl; give = refl; ties = refl }))))

pub slice_bounds-give-end : goal.slice_bounds-give-end
slice_bounds-give-end c = give_within (taken _ _ _ _ _ c.in-Ok.is c.read.ensures (record { domain = refl; loss = refl; give = refl; ties = refl }))

pub slice_bounds-week-end-in-Ok-2 : goal.slice_bounds-week-end-in-Ok-2
slice_bounds-week-end-in-Ok-2 c = sym (length-take-le _ _ (give_within (taken _ _ _ _ _ c.in-Ok.is c.read.ensures (record { domain = refl; loss = refl; give = refl; ties = refl }))))

pub overflow_mul-ties-in-Ok : goal.overflow_mul-ties-in-Ok
overflow_mul-ties-in-Ok c = let k = (taken _ _ _ _ _ c.in-Ok.is c.read.ensures (record { domain = refl; loss = refl; give = refl; ties = refl })) in omega (arith, words_most c.in-Ok.numbers.n k.few)

pub slice_bounds-ties-end : goal.slice_bounds-ties-end
slice_bounds-ties-end c = ties_within (taken _ _ _ _ _ c.in-Ok.is c.read.ensures (record { domain = refl; loss = refl; give = refl; ties = refl }))

pub slice_bounds-week-end-in-Ok-3 : goal.slice_bounds-week-end-in-Ok-3
slice_bounds-week-end-in-Ok-3 c = sym (length-take-le _ _ (ties_within (taken _ _ _ _ _ c.in-Ok.is c.read.ensures (record { domain = refl; loss = refl; give = refl; ties = refl }))))

pub week-requires : goal.week-requires
week-requires c = (fine_taken _ _ _ _ _ c.in-Ok.is c.read.ensures (record { domain = refl; loss = refl; give = refl; ties = refl }), c.requires.0, c.requires.1)

pub refused-requires : goal.refused-requires
refused-requires c = rw c.requires.0 (refused_fits _ _ c.requires.1)

pub returns-in-Ok : goal.returns-in-Ok
returns-in-Ok c = record {
  put = put_as (text_taken _ _ _ _ _ c.in-Ok.is c.read.ensures (record { domain = refl; loss = refl; give = refl; ties = refl })) c.week.ensures.put;
  same = c.week.ensures.same;
}

pub returns-in-Err : goal.returns-in-Err
returns-in-Err c = record {
  put = put_as
      (read_refused _ _ _ _ _ (record { domain = refl; loss = refl; give = refl; ties = refl }) c.read.ensures (refused_some c.in-Err.is)
      ∙ ap refused_line (refused c.in-Err.is ∙ sym c.number.ensures))
      c.refused.ensures.put;
  same = c.refused.ensures.same;
}
