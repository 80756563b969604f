-- `sheet::pad` meets its contract: the places copied are the order's, the others still 0.
use Rattle.sheet.proofs.Services.{pad_copied}
use Rattle.sheet.proofs.pad.Goals as goal

pub returns : goal.returns
returns c = pad_copied c.args.lots c.args.order.now _ c.requires.0 c.requires.1 c.copy_from_slice.ensures.after
