-- The tests before the answer's have passed.
use Rattle.std.proofs.Common.{sym, ◌∙◌, refl}
use Rattle.elf_load.proofs.segment_checks.segment_fault.Goals as goal

pub returns-in-Some : goal.returns-in-Some
returns-in-Some c = rw (sym c.is_any_dynamic.ensures ∙ c.if-is_any_dynamic.false, sym c.in-Some.ensures.first) refl

pub returns-in-Some-first_malformed : goal.returns-in-Some-first_malformed
returns-in-Some-first_malformed c = rw (sym c.is_any_dynamic.ensures ∙ c.if-is_any_dynamic.false, sym c.in_default.ensures.first, sym c.in-Some-first_malformed.ensures.first) refl

pub returns-in-Some-first_sharing : goal.returns-in-Some-first_sharing
returns-in-Some-first_sharing c = rw (sym c.is_any_dynamic.ensures ∙ c.if-is_any_dynamic.false, sym c.in_default.ensures.first, sym c.in_default-first_malformed.ensures.first, sym c.in-Some-first_sharing.ensures.first) refl

pub returns-in-Some-first_writable_code : goal.returns-in-Some-first_writable_code
returns-in-Some-first_writable_code c = rw (sym c.is_any_dynamic.ensures ∙ c.if-is_any_dynamic.false, sym c.in_default.ensures.first, sym c.in_default-first_malformed.ensures.first, sym c.in_default-first_sharing.ensures.first, sym c.in-Some-first_writable_code.ensures.first) refl

pub returns-in-Some-first_outside_user : goal.returns-in-Some-first_outside_user
returns-in-Some-first_outside_user c = rw (sym c.is_any_dynamic.ensures ∙ c.if-is_any_dynamic.false, sym c.in_default.ensures.first, sym c.in_default-first_malformed.ensures.first, sym c.in_default-first_sharing.ensures.first, sym c.in_default-first_writable_code.ensures.first, sym c.in-Some-first_outside_user.ensures.first) refl

pub returns-then-are_too_many_pages : goal.returns-then-are_too_many_pages
returns-then-are_too_many_pages c = rw (sym c.is_any_dynamic.ensures ∙ c.if-is_any_dynamic.false, sym c.in_default.ensures.first, sym c.in_default-first_malformed.ensures.first, sym c.in_default-first_sharing.ensures.first, sym c.in_default-first_writable_code.ensures.first, sym c.in_default-first_outside_user.ensures.first, sym c.are_too_many_pages.ensures ∙ c.if-are_too_many_pages.true) refl

pub returns-then-not-is_entry : goal.returns-then-not-is_entry
returns-then-not-is_entry c = rw (sym c.is_any_dynamic.ensures ∙ c.if-is_any_dynamic.false, sym c.in_default.ensures.first, sym c.in_default-first_malformed.ensures.first, sym c.in_default-first_sharing.ensures.first, sym c.in_default-first_writable_code.ensures.first, sym c.in_default-first_outside_user.ensures.first, sym c.are_too_many_pages.ensures ∙ c.if-are_too_many_pages.false, sym c.is_entry.ensures ∙ c.if-not-is_entry.true) refl

pub returns : goal.returns
returns c = rw (sym c.is_any_dynamic.ensures ∙ c.if-is_any_dynamic.false, sym c.in_default.ensures.first, sym c.in_default-first_malformed.ensures.first, sym c.in_default-first_sharing.ensures.first, sym c.in_default-first_writable_code.ensures.first, sym c.in_default-first_outside_user.ensures.first, sym c.are_too_many_pages.ensures ∙ c.if-are_too_many_pages.false, sym c.is_entry.ensures ∙ c.if-not-is_entry.false) refl
