-- Entries that start and post nothing: an opening, an arrival, and commands of the active request.
use Rattle.unit_book.proofs.Names.{ℕ, ◌+◌, ◌≤◌, List, [], ◌∷◌, ◌++◌, sym, ap, ◌∙◌, inl, inr, subst}
use Rattle.unit_book.proofs.Names.{Meaning, Name, Piece, Program, after, length_of, Extent, Each, PostedState}
use Rattle.unit_book.proofs.Names.{active, started, attempts, flag, posted}
use Rattle.unit_book.specs.declared.dcb.ProcessingMethod.{ProcessingMethod}
use Rattle.unit_book.specs.declared.entry.Entry.{Entry}
use Rattle.unit_book.specs.declared.entry.Entry.TheVariants.{Opened, Arrive, Ran}
use Rattle.unit_book.specs.Legal.{RanFits}
use Rattle.unit_book.proofs.Facts.{Facts, Known, Each-behind, Each-weaker, NewestIs}
use Rattle.unit_book.proofs.Runs.{current-ran}
use Rattle.ccw_programs.proofs.StepLaws.{after-add}
use Rattle.serial_order.specs.OneAtATime.{IdleUnit, unit_after}
use Rattle.serial_order.proofs.Programs.{more-few}
use Rattle.serial_order.proofs.Agrees.{Rests, Waits, WasPosted, Later, Runs, Was, Is, Will, Agrees}
use Rattle.serial_order.proofs.Turns.{active-turn}

module _ {D : Type 0} (meaning : Meaning D) (mounted : D) where
  module _ (openings : List Entry) (H : List Entry) where
    -- AN OPENING
    module _ (d : ℕ) (method : ProcessingMethod) (extents : List Extent) where
      rests-opened : {u : IdleUnit D} → Rests meaning mounted H u → Rests meaning mounted (Opened d method extents ∷ H) u
      unfolding active started attempts flag
      rests-opened s = record { idle = s.idle; equals = s.equals; flags = s.flags }

      waits-opened : {r : Piece} → Waits H r → Waits (Opened d method extents ∷ H) r
      waits-opened w = record { unstarted = w.unstarted; unposted = w.unposted }

      was-opened : {r : Piece} {v : PostedState} → WasPosted meaning mounted H r v →
          WasPosted meaning mounted (Opened d method extents ∷ H) r v
      unfolding posted
      was-opened w = record { done = w.done; value = w.value }

      runs-opened : {u : IdleUnit D} {r : Piece} → Runs meaning mounted openings H u r →
          Runs meaning mounted openings (Opened d method extents ∷ H) u r
      unfolding active started attempts flag
      runs-opened p = record {
        active = p.active;
        flags = p.flags;
        left = p.left;
        number = p.number;
        eleven = p.eleven;
        started = p.started;
        begins = p.begins;
        commands = p.commands;
        fetched = p.fetched;
        few = p.few;
        equals = p.equals;
        serving = p.serving;
      }

      later-opened : {u : IdleUnit D} (r : Piece) → Later meaning mounted openings H u r →
          Later meaning mounted openings (Opened d method extents ∷ H) u r
      later-opened r (inl w) = inl (waits-opened w)
      later-opened r (inr a) = inr (record { away = a.away; was = was-opened a.was })

      each-opened : (u : IdleUnit D) (rs : List Piece) → Each (Later meaning mounted openings H u) rs →
          Each (Later meaning mounted openings (Opened d method extents ∷ H) u) rs
      each-opened u rs l =
          Each-weaker (Later meaning mounted openings H u)
          (Later meaning mounted openings (Opened d method extents ∷ H) u) later-opened rs l

      pub agrees-opened : (u : IdleUnit D) (rs : List Piece) → Agrees meaning mounted openings H u rs →
          Agrees meaning mounted openings (Opened d method extents ∷ H) u rs
      agrees-opened u [] s = rests-opened s
      agrees-opened u (r ∷ rs) (Was p a) = Was (was-opened p) (agrees-opened (unit_after meaning mounted openings u r) rs a)
      agrees-opened u (r ∷ rs) (Is p l) = Is (runs-opened p) (each-opened u rs l)
      agrees-opened u (r ∷ rs) (Will s v l) = Will (rests-opened s) (waits-opened v) (each-opened u rs l)

  module _ (openings : List Entry) {H : List Entry} where
    -- AN ARRIVAL
    module _ (q : Piece) where
      rests-arrive : {u : IdleUnit D} → Rests meaning mounted H u → Rests meaning mounted (Arrive q ∷ H) u
      unfolding active started attempts flag
      rests-arrive s = record { idle = s.idle; equals = s.equals; flags = s.flags }

      waits-arrive : {r : Piece} → Waits H r → Waits (Arrive q ∷ H) r
      waits-arrive w = record { unstarted = w.unstarted; unposted = w.unposted }

      was-arrive : {r : Piece} {v : PostedState} → WasPosted meaning mounted H r v → WasPosted meaning mounted (Arrive q ∷ H) r v
      unfolding posted
      was-arrive w = record { done = w.done; value = w.value }

      runs-arrive : {u : IdleUnit D} {r : Piece} → Runs meaning mounted openings H u r → Runs meaning mounted openings (Arrive q ∷ H) u r
      unfolding active started attempts flag
      runs-arrive p = record {
        active = p.active;
        flags = p.flags;
        left = p.left;
        number = p.number;
        eleven = p.eleven;
        started = p.started;
        begins = p.begins;
        commands = p.commands;
        fetched = p.fetched;
        few = p.few;
        equals = p.equals;
        serving = p.serving;
      }

      later-arrive : {u : IdleUnit D} (r : Piece) → Later meaning mounted openings H u r → Later meaning mounted openings (Arrive q ∷ H) u r
      later-arrive r (inl w) = inl (waits-arrive w)
      later-arrive r (inr a) = inr (record { away = a.away; was = was-arrive a.was })

      each-arrive : (u : IdleUnit D) (rs : List Piece) → Waits (Arrive q ∷ H) q → Each (Later meaning mounted openings H u) rs →
          Each (Later meaning mounted openings (Arrive q ∷ H) u) (rs ++ q ∷ [])
      each-arrive u rs w l =
          Each-behind (Later meaning mounted openings (Arrive q ∷ H) u) rs q
          (Each-weaker (Later meaning mounted openings H u) (Later meaning mounted openings (Arrive q ∷ H) u) later-arrive rs l) (inl w)

      pub agrees-arrive : (u : IdleUnit D) (rs : List Piece) → Waits (Arrive q ∷ H) q → Agrees meaning mounted openings H u rs →
          Agrees meaning mounted openings (Arrive q ∷ H) u (rs ++ q ∷ [])
      agrees-arrive u [] w s = Will (rests-arrive s) w tt
      agrees-arrive u (r ∷ rs) w (Was p a) = Was (was-arrive p) (agrees-arrive (unit_after meaning mounted openings u r) rs w a)
      agrees-arrive u (r ∷ rs) w (Is p l) = Is (runs-arrive p) (each-arrive u rs w l)
      agrees-arrive u (r ∷ rs) w (Will s v l) = Will (rests-arrive s) (waits-arrive v) (each-arrive u rs w l)

    -- COMMANDS of the active request
    module _ {n : Name} {j : ℕ} (fits : RanFits meaning mounted n j H) (f : Facts H) where
      was-ran : (r : Piece) (v : PostedState) → WasPosted meaning mounted H r v → WasPosted meaning mounted (Ran n j ∷ H) r v
      unfolding posted
      was-ran r v w = record { done = w.done; value = w.value }

      later-ran : {u : IdleUnit D} (r : Piece) → Later meaning mounted openings H u r → Later meaning mounted openings (Ran n j ∷ H) u r
      later-ran r (inl w) = inl (record { unstarted = w.unstarted; unposted = w.unposted })
      later-ran r (inr a) = inr (record { away = a.away; was = was-ran r _ a.was })

      runs-ran : {u : IdleUnit D} {r : Piece} → Runs meaning mounted openings H u r → Runs meaning mounted openings (Ran n j ∷ H) u r
      unfolding active started flag
      runs-ran p =
          let w : NewestIs n H = f.4 n fits.active in
          let more : j ≤ length_of meaning (after meaning p.commands p.begins)
          = subst (λ (x : Program D). j ≤ length_of meaning x) p.equals fits.left in
          record {
            active = p.active;
            flags = p.flags;
            left = p.left;
            number = p.number;
            eleven = p.eleven;
            started = p.started;
            begins = p.begins;
            commands = p.commands + j;
            fetched = p.fetched;
            few = more-few meaning p.commands j p.begins p.fetched p.few more;
            equals = current-ran meaning mounted n j H w ∙ ap (after meaning j) p.equals ∙ sym (after-add meaning p.commands j p.begins);
            serving = p.serving;
          }

      pub agrees-ran : (u : IdleUnit D) (rs : List Piece) → Each (Known H) rs →
          Agrees meaning mounted openings H u rs → Agrees meaning mounted openings (Ran n j ∷ H) u rs
      agrees-ran u rs k a =
          active-turn meaning mounted openings was-ran (Known H)
          (λ u r rs e k p l. Is (runs-ran p)
          (Each-weaker (Later meaning mounted openings H u) (Later meaning mounted openings (Ran n j ∷ H) u) later-ran rs l))
          fits.active u rs k a
