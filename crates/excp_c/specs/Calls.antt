-- WHAT EVERY CALL ON A HANDLE PROMISES (c/excp.h, "Every call").
use Rattle.std.specs.Prelude.{◌≡◌, ◌≢◌, ◌↔◌, ℕ, IsSome}
use Rattle.excp_c.specs.declared.handle.Handle.{Handle}
use Rattle.excp_c.specs.declared.handle.TheConstants.{MARK}

-- it returns NO_SITE if and only if the handle has no site
abbrev pub TestsSite : Handle → ℕ → Type 0
TestsSite h status = (status ≡ 3) ↔ (h.mark ≢ MARK)

-- a handle that has a site keeps one
abbrev pub KeepsSite : Handle → Handle → Type 0
KeepsSite h k = (k.mark ≡ h.mark) × (IsSome h.slot.value → IsSome k.slot.value)

-- the site is as it was
abbrev pub SameSite : Handle → Handle → Type 0
SameSite h k = k.slot.value ≡ h.slot.value
