-- The post of the active request: the fields stay those of the trace.
use Rattle.unit_book.proofs.Names.{BookFields, ◌≡◌, ℕ, ◌&&◌, Some, None, List, [], ◌∷◌, ◌++◌, append_assoc, length, refl, sym, ap, ◌∙◌, eqb}
use Rattle.unit_book.proofs.Names.{inl, inr, cases_Bool, Storage, is_error, Status, Code, Meaning, Phase, Idle, Name, Piece, Active}
use Rattle.unit_book.proofs.Names.{Standing, Dcb, Entry, Post, request_named, attempts, stand, newest, current, area}
use Rattle.unit_book.proofs.Names.{is_opened, extents_of, flag, Legal, due, Free, PostsActive, OfActive, posted, posted_value}
use Rattle.unit_book.proofs.Names.{doomed_by_post, StandingTies, Ties, dcb_at, dcb_of, noted, arith}
use Rattle.subchannel.specs.Subchannel.{tested_phase}
use Rattle.request_piece.specs.Final.{posted_of}
use Rattle.unit_book.proofs.Facts.{NewestIs, active-is, active-post, waiting-post, without-started}
use Rattle.unit_book.proofs.LegalFacts.{facts}
use Rattle.unit_book.proofs.Same.{fits-free}
use Rattle.std.proofs.lemmas.Grind.{common_steps}

-- a post notes its error at the DCB of its request, whose storage may have changed
pub dcb-post : {r : Piece} {m : Storage} (n : Name) (status : Status) (code : Code) (H : List Entry) (d : ℕ) →
    r ≡ record (request_named n H) { area = m } →
    noted (is_error code && r.related && eqb r.dcb d) (dcb_of d H) ≡ dcb_of d (Post n status.csw status.sense code ∷ H)
unfolding flag extents_of
dcb-post n status code H d e = elim (cases_Bool (is_opened d H)) [ inl o ↦ rw (o, e) refl | inr o ↦ rw o refl ]

module _ {D : Type 0} (meaning : Meaning D) (mounted : D) where
  -- the storage of the active request is that of the newest attempt
  pub area-current : (n : Name) (H : List Entry) → NewestIs n H →
      area meaning mounted (request_named n H) H ≡ (current meaning mounted H).area
  unfolding stand newest
  area-current n H w = grind (arith, common_steps)

  -- whom the post dooms
  pub doom-is : {held : BookFields D} {a : Active}
      (code : Code) →
      Ties meaning mounted held (Some a) →
      doomed_by_post a.piece.value code ≡ doomed_by_post (request_named a.piece.value.name held.trace) code
  doom-is code t = ap (λ (r : Piece). doomed_by_post r code) t.activity.request

module _ {D : Type 0} {meaning : Meaning D} {mounted : D} {held : BookFields D} {a : Active}
    {status : Status} {code : Code}
    (settled : due meaning mounted held.trace ≡ Free) (t : Ties meaning mounted held (Some a))
    (p : PostsActive meaning mounted a.piece.value.name status code held.trace) where
  abbrev n : Name
  n = a.piece.value.name

  tested-idle : (phase : Phase) (standing : Standing) → StandingTies meaning mounted held.trace phase a standing → tested_phase phase
      ≡ Idle
  tested-idle v0 standing d = grind (arith, common_steps)

  -- what is handed out is the value that the trace says
  pub value-is : posted_value a.piece.value status.csw status.sense code a.piece.value.area
      ≡ posted_value (request_named n held.trace) status.csw status.sense code
      (area meaning mounted (request_named n held.trace) held.trace)
  unfolding posted_value
  value-is =
      let w : NewestIs n held.trace = (facts meaning mounted held.trace t.legal).4 n t.activity.is in
      ap (λ (p : Piece). posted_of p code status.csw status.sense) t.activity.request
      ∙ ap (λ (m : Storage). posted_of (record (request_named n held.trace) { area = m }) code status.csw status.sense)
      (sym (area-current meaning mounted n held.trace w))

  pub ties-post : {new : List Dcb} →
      ((d : ℕ) → dcb_at new d ≡ noted (is_error code && a.piece.value.related && eqb a.piece.value.dcb d) (dcb_at held.dcbs d)) →
      length new ≡ length held.dcbs →
      Ties meaning mounted (record held {
        trace = Post n status.csw status.sense code ∷ held.trace;
        channel = record held.channel { phase = tested_phase held.channel.phase };
        dcbs = new;
        out = held.out
            ++ posted_value a.piece.value status.csw status.sense code a.piece.value.area ∷ [];
      }) None
  unfolding Legal attempts posted
  ties-post dcbs count =
      let f = facts meaning mounted held.trace t.legal in
      let o = t.out in
      let v = posted_value a.piece.value status.csw status.sense code a.piece.value.area in
      record {
        legal = (fits-free meaning mounted (Post n status.csw status.sense code) held.trace settled (OfActive p), t.legal);
        queue = t.queue
            ∙ sym (waiting-post n status.csw status.sense code held.trace ∙ without-started n held.trace f
            (active-is n held.trace t.activity.is).0);
        placed = t.placed;
        device = t.device;
        activity = (
          active-post status code held.trace f t.activity.is,
          tested-idle held.channel.phase a.standing t.activity.standing,
        );
        count = count ∙ t.count;
        dcbs = λ d. dcbs d ∙ ap (noted (is_error code && a.piece.value.related && eqb a.piece.value.dcb d)) (t.dcbs d)
            ∙ dcb-post n status code held.trace d t.activity.request;
        out = (
          o.0,
          sym (append_assoc o.0 held.out (v ∷ [])) ∙ ap (λ x. x ++ v ∷ []) o.1
              ∙ ap (λ x. posted meaning mounted held.trace ++ x ∷ []) value-is,
        );
      }
