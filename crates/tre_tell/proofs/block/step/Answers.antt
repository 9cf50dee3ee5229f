use Rattle.tre_tell.proofs.Told.{CanTell-refused}
use Rattle.tre_tell.proofs.block.step.Goals as goal

pub want_of_memory-requires : goal.want_of_memory-requires
want_of_memory-requires c = CanTell-refused c.requires.rows c.args.column.now _ c.requires.fits
    (c.in-Err.ensures.refused c.requires.rows c.requires.stands)
