use Rattle.r9_attend.proofs.attend.writing.give_up.Goals as goal

pub returns : goal.returns
returns g c = record {
  ended = c.end_session.new.pass;
  on = c.end_session.ensures.goes_on;
  ending = c.end_session.ensures.made;
  goes = c.look.ensures.goes_on;
  found = c.look.result;
  looked = c.look.ensures.looked;
}
