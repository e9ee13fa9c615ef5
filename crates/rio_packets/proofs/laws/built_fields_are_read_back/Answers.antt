use Rattle.rio_packets.proofs.FieldLaws.{prio_of-link_form, ftype_of-link_form, tt_of-link_form, dest_of-link_form, source_of-link_form}
use Rattle.rio_packets.proofs.laws.built_fields_are_read_back.Goals as goal

pub returns : goal.returns
returns c prio ftype large dest source rest packet h k form = record {
  prio_is = prio_of-link_form prio ftype large dest source rest packet form h k;
  ftype_is = ftype_of-link_form prio ftype large dest source rest packet form h k;
  tt_is = tt_of-link_form prio ftype large dest source rest packet form h k;
  dest_is = dest_of-link_form prio ftype large dest source rest packet form h k;
  source_is = source_of-link_form prio ftype large dest source rest packet form h k;
}
