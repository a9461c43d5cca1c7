-- Sending through a fan, and taking its last end off.
use Rattle.std.proofs.Common.{◌≡◌, ◌<◌, ℕ, List, [], ◌∷◌, ◌++◌, length, map, set, get_or, Some, sym, ap, ◌∙◌, subst}
use Rattle.std.specs.Prelude.{slice_get, slice_index_or, slice_set}
use Rattle.std.proofs.lemmas.List.{map-set, get_or-map, map-append, length-map}
use Rattle.std.proofs.lemmas.Option.{slice_get-get_or}
use Rattle.fifo_row.specs.Ends.{Sending}
use Rattle.fifo_row.specs.Steps.{WasFull}
use Rattle.excp_system.specs.Sites.{ReachedRows, end_of}
use Rattle.excp_system.specs.Fans.{FanState, IsFan}
use Rattle.excp_system.proofs.Places.{get_seam}

module _ {I : Type 0} (r : ReachedRows) (number : ℕ) (ends : List (Sending I)) (fan : IsFan r number ends) (i k : ℕ) (here : i ≡ k)
    (lt : k < length ends) (e : Sending I) (is : e ≡ get_or ends i e) where
  old_sent : slice_index_or (map (λ s. s.sent) ends) k [] ≡ e.sent
  old_sent = get_or-map (λ (s : Sending I). s.sent) ends k e [] lt
      ∙ sym (ap (λ (s : Sending I). s.sent) (is ∙ ap (λ j. get_or ends j e) here))

  pub fan_ok : (new : Sending I) (x : I) → new ≡ record e { sent = e.sent ++ x ∷ [] }
      → map (λ s. s.sent) (set ends i new) ≡ slice_set (map (λ s. s.sent) ends) k (slice_index_or (map (λ s. s.sent) ends) k [] ++ x ∷ [])
  fan_ok new x same =
      map-set (λ (s : Sending I). s.sent) ends i new
      ∙ (ap (λ j. set (map (λ (s : Sending I). s.sent) ends) j new.sent) here
      ∙ ap (set (map (λ (s : Sending I). s.sent) ends) k) (ap (λ (s : Sending I). s.sent) same ∙ ap (λ l. l ++ x ∷ []) (sym old_sent)))

  -- the end at a place is the one of the row there
  pub end_is : e ≡ end_of r number k (slice_index_or (map (λ s. s.sent) ends) k [])
  end_is =
      let there : slice_get ends k ≡ Some e = slice_get-get_or ends k e lt ∙ ap Some (sym (is ∙ ap (λ j. get_or ends j e) here)) in
      fan k e there ∙ ap (end_of r number k) (sym old_sent)

  pub fan_full : (from : I → ℕ) (fact : I → ℕ → ℕ → ℕ → Type 0) → WasFull from fact e →
      WasFull from fact (end_of r number k (slice_index_or (map (λ s. s.sent) ends) k []))
  fan_full from fact full = subst (WasFull from fact) end_is full

-- the last end is taken off
module _ {I : Type 0} (r : ReachedRows) (number : ℕ) (ends rest : List (Sending I)) (e : Sending I) (v : FanState I)
    (fan : IsFan r number ends) (last : ends ≡ rest ++ e ∷ []) (is : record { number = number; sent = map (λ s. s.sent) ends } ≡ v) where
  pub popped_end : e ≡ end_of r v.number (length (map (λ s. s.sent) rest)) e.sent
  popped_end =
      let there : slice_get ends (length rest) ≡ Some e = ap (λ l. slice_get l (length rest)) last ∙ get_seam rest [] e in
      let at : e ≡ end_of r number (length rest) e.sent = fan (length rest) e there in
      at ∙ (λ i. end_of r (ap (λ (w : FanState I). w.number) is i) (sym (length-map rest (λ (s : Sending I). s.sent)) i) e.sent)

  pub popped_last : v ≡ record { number = number; sent = map (λ s. s.sent) rest ++ e.sent ∷ [] }
  popped_last =
      let sents : map (λ (s : Sending I). s.sent) ends ≡ map (λ (s : Sending I). s.sent) rest ++ e.sent ∷ [] =
      ap (map (λ (s : Sending I). s.sent)) last ∙ map-append (λ (s : Sending I). s.sent) rest (e ∷ []) in
      sym is ∙ (λ i. record { number = number; sent = sents i })
