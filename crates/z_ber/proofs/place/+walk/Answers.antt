use Rattle.std.proofs.Common.{arith}
use Rattle.std.proofs.lemmas.Bool.{not-false, not-true}
use Rattle.z_ber.proofs.ElementReading.{not_empty}
use Rattle.z_ber.proofs.WalkLemmas.{none_found, not_some, primitive_size, contents_size, contents_place, open_place, is_closed, comes_passed, comes_into, comes_place, comes_none, nears_start, nears_passed, nears_end, nears_open, nears_place, nears_none, nears_done}
use Rattle.z_ber.proofs.place.+walk.Goals as goal

pub are_elements-returns-in_default-clause-place :
    goal.are_elements-returns-in_default-clause-place
are_elements-returns-in_default-clause-place t c =
    comes_none c.args.levels c.loop-rest.left c.args.octets.now c.loop-rest.rest.now c.loop-rest.invariant.comes (not_empty c.loop-rest.rest.now c.loop-rest-test.ensures) (none_found c.loop-rest.left c.loop-rest.rest.now c.find_header.result c.in_default.not-Some c.find_header.ensures)

pub are_elements-loop-rest-preserved-then-has_all :
    goal.are_elements-loop-rest-preserved-then-has_all
are_elements-loop-rest-preserved-then-has_all t c = record {
  few = omega (arith, c.loop-rest.invariant.few);
  comes = comes_into c.args.levels c.loop-rest.left c.args.octets.now c.loop-rest.rest.now c.split_at.result.1.now c.in-Some.head c.loop-rest.invariant.comes (not_empty c.loop-rest.rest.now c.loop-rest-test.ensures) c.in-Some.ensures (c.has_all.ensures.form c.if-has_all.true) (c.has_all.ensures.all c.if-has_all.true) c.split_at.ensures.back;
}

pub are_elements-loop-rest-preserved : goal.are_elements-loop-rest-preserved
are_elements-loop-rest-preserved t c = record {
  few = c.loop-rest.invariant.few;
  comes = comes_passed c.args.levels c.loop-rest.left c.in-Ok.size c.args.octets.now c.loop-rest.rest.now c.split_at-in-Ok.result.1.now c.loop-rest.invariant.comes (not_empty c.loop-rest.rest.now c.loop-rest-test.ensures) c.in-Ok.ensures.element c.split_at-in-Ok.ensures.back;
}

pub are_elements-returns-in-Err-clause-place : goal.are_elements-returns-in-Err-clause-place
are_elements-returns-in-Err-clause-place t c =
    comes_place c.args.levels c.loop-rest.left c.in-Err.at c.args.octets.now c.loop-rest.rest.now c.loop-rest.invariant.comes (not_empty c.loop-rest.rest.now c.loop-rest-test.ensures) c.in-Err.ensures.place

pub closed_size-loop-opened-init : goal.closed_size-loop-opened-init
closed_size-loop-opened-init t c = record { sum = omega arith; nears = nears_start c.args.levels c.args.octets.now }

pub closed_size-loop-opened-preserved-then-has_end :
    goal.closed_size-loop-opened-preserved-then-has_end
closed_size-loop-opened-preserved-then-has_end t c = record {
  sum = omega (arith, c.loop-opened.invariant.sum, c.loop-opened-test.true);
  nears = nears_end c.args.levels c.loop-opened.opened c.loop-opened.left c.args.octets.now c.loop-opened.rest.now c.split_at.result.1.now c.loop-opened-test.true c.loop-opened.invariant.nears c.if-has_end.ensures.end c.split_at.ensures.back;
}

pub closed_size-returns-in_default-clause-place :
    goal.closed_size-returns-in_default-clause-place
closed_size-returns-in_default-clause-place t c =
    nears_none c.args.levels c.loop-opened.opened c.loop-opened.left c.args.octets.now c.loop-opened.rest.now c.loop-opened-test.true c.loop-opened.invariant.nears c.if-has_end.ensures.end (none_found c.loop-opened.left c.loop-opened.rest.now c.find_header.result c.in_default.not-Some c.find_header.ensures)

pub closed_size-loop-opened-preserved-then-is_none :
    goal.closed_size-loop-opened-preserved-then-is_none
closed_size-loop-opened-preserved-then-is_none t c = record {
  sum = omega (arith, c.loop-opened.invariant.sum, c.in-Some.ensures.level);
  nears = nears_open c.args.levels c.loop-opened.opened c.loop-opened.left c.args.octets.now c.loop-opened.rest.now c.split_at-then-is_none.result.1.now c.in-Some.head c.loop-opened-test.true c.loop-opened.invariant.nears c.if-has_end.ensures.end c.in-Some.ensures (not_some c.in-Some.head.length c.if-is_none.ensures) c.split_at-then-is_none.ensures.back;
}

pub closed_size-loop-opened-preserved : goal.closed_size-loop-opened-preserved
closed_size-loop-opened-preserved t c = record {
  sum = c.loop-opened.invariant.sum;
  nears = nears_passed c.args.levels c.loop-opened.opened c.loop-opened.left c.in-Ok.size c.args.octets.now c.loop-opened.rest.now c.split_at-in-Ok.result.1.now c.loop-opened-test.true c.loop-opened.invariant.nears c.if-has_end.ensures.end c.in-Ok.ensures.element c.split_at-in-Ok.ensures.back;
}

pub closed_size-returns-in-Err-clause-place : goal.closed_size-returns-in-Err-clause-place
closed_size-returns-in-Err-clause-place t c =
    nears_place c.args.levels c.loop-opened.opened c.loop-opened.left c.in-Err.at c.args.octets.now c.loop-opened.rest.now c.loop-opened-test.true c.loop-opened.invariant.nears c.if-has_end.ensures.end c.in-Err.ensures.place

pub closed_size-returns-clause-closed : goal.closed_size-returns-clause-closed
closed_size-returns-clause-closed t c =
    nears_done c.args.levels c.loop-opened.opened c.loop-opened.left c.args.octets.now c.loop-opened.rest.now (omega (arith, c.loop-opened-test.false)) c.loop-opened.invariant.nears

pub size_behind-returns-then-not-head-clause-element :
    goal.size_behind-returns-then-not-head-clause-element
size_behind-returns-then-not-head-clause-element t c =
    primitive_size c.args.levels c.in-Some.len c.args.octets.now c.split_at.result.1.now c.args.head c.requires.begins c.in-Some.is c.split_at.ensures.back (not-true c.args.head.tag.constructed c.if-not-head.true)

pub size_behind-returns-in-Ok-clause-element : goal.size_behind-returns-in-Ok-clause-element
size_behind-returns-in-Ok-clause-element t c =
    is_closed c.args.levels c.in-Ok.size c.args.octets.now c.split_at.result.1.now c.args.head c.requires.begins c.in-None.is c.split_at.ensures.back c.in-Ok.ensures.closed

pub size_behind-returns-in-Err-clause-place : goal.size_behind-returns-in-Err-clause-place
size_behind-returns-in-Err-clause-place t c =
    open_place c.args.levels c.in-Err.at c.args.octets.now c.split_at.result.1.now c.args.head c.requires.begins c.in-None.is c.split_at.ensures.back c.in-Err.ensures.place

pub size_behind-returns-in-Ok-are_elements-clause-element :
    goal.size_behind-returns-in-Ok-are_elements-clause-element
size_behind-returns-in-Ok-are_elements-clause-element t c =
    contents_size c.args.levels c.in-Some.len c.args.octets.now c.split_at.result.1.now c.split_at-in-Some.result.0.now c.args.head c.requires.begins c.in-Some.is c.split_at.ensures.back (not-false c.args.head.tag.constructed c.if-not-head.false) c.split_at-in-Some.ensures.front c.in-Ok-are_elements.ensures.elements

pub size_behind-returns-in-Err-are_elements-clause-place :
    goal.size_behind-returns-in-Err-are_elements-clause-place
size_behind-returns-in-Err-are_elements-clause-place t c =
    contents_place c.args.levels c.in-Some.len c.in-Err-are_elements.at c.args.octets.now c.split_at.result.1.now c.split_at-in-Some.result.0.now c.args.head c.requires.begins c.in-Some.is c.split_at.ensures.back (not-false c.args.head.tag.constructed c.if-not-head.false) c.split_at-in-Some.ensures.front c.in-Err-are_elements.ensures.place
