use Rattle.r9_service.proofs.recorder.recorder.told_of_recorder.Goals as goal

pub returns : goal.returns
returns g c = λ loan recorder history is. g.met.H.Keeps.lawful recorder.hall history is.stood
