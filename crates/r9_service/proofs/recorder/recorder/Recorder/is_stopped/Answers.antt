use Rattle.r9_service.proofs.recorder.recorder.Recorder.is_stopped.Goals as goal

pub returns : goal.returns
returns g c = λ loan history was. c.is_stopped.ensures history was.stood
