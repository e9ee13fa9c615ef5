-- The two ends of a link.
use Rattle.link_watch.specs.declared.side.Side.{Side}
use Rattle.link_watch.specs.declared.side.Side.TheVariants.{A, B}

-- the end that a link has beside this one
abbrev pub other_side : Side → Side
other_side A = B
other_side B = A
