use Rattle.rio_cli.proofs.places.+write_place.Given as goal

abbrev pub decreases-write_place : goal.decreases-write_place
decreases-write_place g l = l.place
