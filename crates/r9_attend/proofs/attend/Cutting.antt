-- Messages cut from a stream so far, and what is held behind them.
use Rattle.std.proofs.Common.{◌≡◌, ℕ, List, [], ◌∷◌, ◌++◌, length, drop, refl, sym, ap, ◌∙◌, append_assoc}
use Rattle.std.specs.List.{concat}
use Rattle.std.proofs.lemmas.List.{append-nil, drop-append-le}
use Rattle.std.proofs.lemmas.List.Folds.{concat-append}
use Rattle.r9_lock.specs.Histories.{IsPrefix}
use Rattle.model_files.specs.frame.Frame.{Frame, NeedMore, BadSize, first}
use Rattle.model_files.specs.frame.Stream.{messages, messages_from}
use Rattle.model_files.proofs.frame.Laws.{frame_stays, frame_parts, frame_within}
use Rattle.model_files.proofs.frame.StreamLaws.{messages_begin}
use Rattle.r9_attend.specs.attend.Steps.{Cuts}

module _ (limit : List (List ℕ) → ℕ) where
  pub cuts_none : Cuts limit [] [] []
  cuts_none = record { joined = refl; goes_on = λ more. refl }

  pub cuts_fed : (sent : List (List ℕ)) (held bytes piece : List ℕ) → Cuts limit sent held bytes → Cuts limit sent (held ++ piece) (bytes ++ piece)
  cuts_fed sent held bytes piece c = record {
    joined = sym (append_assoc (concat sent) held piece) ∙ ap (λ l. l ++ piece) c.joined;
    goes_on = λ more. ap (messages limit []) (append_assoc bytes piece more) ∙ c.goes_on (piece ++ more)
        ∙ ap (λ l. sent ++ messages limit sent l) (sym (append_assoc held piece more));
  }

  pub cuts_frame : (sent : List (List ℕ)) (held bytes frame : List ℕ) → Cuts limit sent held bytes → first (limit sent) held ≡ Frame frame → Cuts limit (sent ++ frame ∷ []) (drop (length frame) held) bytes
  cuts_frame sent held bytes frame c e = record {
    joined = ap (λ l. l ++ drop (length frame) held) (concat-append sent (frame ∷ []) ∙ ap (λ l. concat sent ++ l) (append-nil frame))
        ∙ append_assoc (concat sent) frame (drop (length frame) held)
        ∙ ap (λ l. concat sent ++ l) (sym (frame_parts (limit sent) held frame e)) ∙ c.joined;
    goes_on = λ more. c.goes_on more
        ∙ ap (λ l. sent ++ l) (messages_begin limit sent (held ++ more)
        ∙ ap (messages_from limit sent (held ++ more)) (frame_stays (limit sent) held more frame e)
        ∙ ap (λ l. frame ∷ messages limit (sent ++ frame ∷ []) l) (drop-append-le (length frame) held more (frame_within (limit sent) held frame e)))
        ∙ sym (append_assoc sent (frame ∷ []) (messages limit (sent ++ frame ∷ []) (drop (length frame) held ++ more)));
  }

  -- the messages of the bytes so far
  cut_is : (sent : List (List ℕ)) (held bytes : List ℕ) → Cuts limit sent held bytes → messages limit [] bytes ≡ sent ++ messages limit sent held
  cut_is sent held bytes c = ap (messages limit []) (sym (append-nil bytes)) ∙ c.goes_on [] ∙ ap (λ l. sent ++ messages limit sent l) (append-nil held)

  pub cuts_need : (sent : List (List ℕ)) (held bytes : List ℕ) → Cuts limit sent held bytes → first (limit sent) held ≡ NeedMore → messages limit [] bytes ≡ sent
  cuts_need sent held bytes c e = cut_is sent held bytes c ∙ ap (λ l. sent ++ l) (messages_begin limit sent held ∙ ap (messages_from limit sent held) e) ∙ append-nil sent

  pub cuts_bad : (sent : List (List ℕ)) (held bytes : List ℕ) (size : ℕ) → Cuts limit sent held bytes → first (limit sent) held ≡ BadSize size → messages limit [] bytes ≡ sent
  cuts_bad sent held bytes size c e = cut_is sent held bytes c ∙ ap (λ l. sent ++ l) (messages_begin limit sent held ∙ ap (messages_from limit sent held) e) ∙ append-nil sent

  pub cuts_front : (sent : List (List ℕ)) (held bytes more : List ℕ) → Cuts limit sent held bytes → IsPrefix sent (messages limit [] (bytes ++ more))
  cuts_front sent held bytes more c = record { rest = messages limit sent (held ++ more); is = c.goes_on more }

  pub cuts_front_now : (sent : List (List ℕ)) (held bytes : List ℕ) → Cuts limit sent held bytes → IsPrefix sent (messages limit [] bytes)
  cuts_front_now sent held bytes c = record { rest = messages limit sent held; is = cut_is sent held bytes c }
