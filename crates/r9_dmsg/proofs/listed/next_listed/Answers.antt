use Rattle.r9_dmsg.proofs.Asked.{found_there, within_there, none_there}
use Rattle.r9_dmsg.proofs.listed.next_listed.Goals as goal

pub returns : goal.returns
returns c = record {
  whole = c.first_listed.ensures.whole;
  near = c.first_listed.ensures.near;
  few = c.first_listed.ensures.few;
  found = found_there _ _ c.first_listed.ensures.whole c.first_listed.ensures.read;
  within = within_there _ _ c.first_listed.ensures.whole c.first_listed.ensures.read;
  none = none_there _ _ c.first_listed.ensures.read;
}
