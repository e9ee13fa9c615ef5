use Rattle.maint_registers.proofs.WithinLaws.{write_within, large_within, lock_within, route_within, default_within, links_within, standard_within}
use Rattle.maint_registers.proofs.laws.devices_stay_within.Goals as goal

pub returns : goal.returns
returns c = record {
  written = write_within;
  large = large_within;
  lock = lock_within;
  route = route_within;
  default_port = default_within;
  links = links_within;
  standard = standard_within;
}
