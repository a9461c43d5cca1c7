-- A book and its copy: the active request of the copy is in a box of its own.
use Rattle.unit_book.proofs.Names.{◌≡◌, Some, None, Option, List, refl, sym, ap, subst, Meaning, Phase, Absent, Idle, Running, Pending, Buffer, PostedState, Queue}
use Rattle.unit_book.proofs.Names.{Active, Standing, OnChannel, AwaitsRestart}
use Rattle.unit_book.specs.declared.entry.Entry.{Entry}
use Rattle.unit_book.specs.Fields.{BookFields, IsSameActive, IsSameActivity, ActiveTies, ActivityTies, StandingTies, Ties, Rooms, awaits_by, awaits_of}

pub same-awaits : (busy copy : Option Active) → IsSameActivity busy copy → awaits_of copy ≡ awaits_of busy
same-awaits None None s = refl
same-awaits None (Some b) s = elim s [ ]
same-awaits (Some a) None s = elim s [ ]
same-awaits (Some a) (Some b) s = ap awaits_by s.standing

pub same-rooms : (busy copy : Option Active) (waiters swept : Queue) (outs : Buffer PostedState) → IsSameActivity busy copy →
    Rooms busy waiters swept outs → Rooms copy waiters swept outs
same-rooms None None waiters swept outs s r = r
same-rooms None (Some b) waiters swept outs s r = elim s [ ]
same-rooms (Some a) None waiters swept outs s r = elim s [ ]
same-rooms (Some a) (Some b) waiters swept outs s r = record { occupancy = r.occupancy; waiting_room = r.waiting_room; swept_is = r.swept_is }

module _ {D : Type 0} (meaning : Meaning D) (mounted : D) where
  same-standing : (H : List Entry) (a b : Active) (phase : Phase) (standing : Standing) → IsSameActive a b →
      StandingTies meaning mounted H phase a standing → StandingTies meaning mounted H phase b standing
  same-standing H a b Absent standing s t = t
  same-standing H a b Idle OnChannel s t = t
  same-standing H a b Idle (AwaitsRestart status) s t = rw s.piece t
  same-standing H a b (Running place) OnChannel s t = rw s.piece t
  same-standing H a b (Running place) (AwaitsRestart status) s t = t
  same-standing H a b (Pending status) OnChannel s t = rw (s.piece, s.halted) t
  same-standing H a b (Pending status) (AwaitsRestart kept) s t = t

  same-active : (H : List Entry) (phase : Phase) (a b : Active) → IsSameActive a b →
      ActiveTies meaning mounted H phase a → ActiveTies meaning mounted H phase b
  same-active H phase a b s t = record {
    is = rw s.piece t.is;
    request = rw s.piece t.request;
    placed = rw s.piece t.placed;
    starts = rw (s.piece, s.starts) t.starts;
    halted = rw (s.piece, s.halted) t.halted;
    covered = rw (s.piece, s.covered) t.covered;
    standing = subst (StandingTies meaning mounted H phase b) (sym s.standing) (same-standing H a b phase a.standing s t.standing);
  }

  same-activity : (H : List Entry) (phase : Phase) (busy copy : Option Active) → IsSameActivity busy copy →
      ActivityTies meaning mounted H phase busy → ActivityTies meaning mounted H phase copy
  same-activity H phase None None s t = t
  same-activity H phase None (Some b) s t = elim s [ ]
  same-activity H phase (Some a) None s t = elim s [ ]
  same-activity H phase (Some a) (Some b) s t = same-active H phase a b s t

  pub same-ties : (held : BookFields D) (busy copy : Option Active) → IsSameActivity busy copy →
      Ties meaning mounted held busy → Ties meaning mounted held copy
  same-ties held busy copy s t = record {
    legal = t.legal;
    queue = t.queue;
    placed = t.placed;
    device = t.device;
    activity = same-activity held.trace held.channel.phase busy copy s t.activity;
    count = t.count;
    dcbs = t.dcbs;
    out = t.out;
  }
