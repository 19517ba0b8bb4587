-- One name for all definitions that compute. A definition stays shut where the line `unfolding` does not name it, and to
-- name `the_rules` there is to name each one below: the examples do that. A new definition belongs on this list.
use Rattle.std.specs.Prelude.{ℕ}
use Rattle.rules.specs.Ranges as ranges
use Rattle.rules.specs.Header as header
use Rattle.rules.specs.Pages as pages
use Rattle.rules.specs.Lent as lent
use Rattle.rules.specs.Walk as walks
use Rattle.rules.specs.Sound as sound
use Rattle.rules.specs.Calls as calls
use Rattle.rules.specs.Collection as collections
use Rattle.rules.specs.Collect as collects

-- the number means nothing
unfoldable pub the_rules : ℕ
unfolding
    ranges.from ranges.block ranges.each ranges.has ranges.count ranges.sum ranges.first
    header.header_of header.size_of header.refs_of header.is_header
    pages.is_page_size pages.page_at_start pages.is_shape pages.page_named pages.page_named_before pages.pages_of_hint
    pages.pages_named pages.is_free pages.lowest_free pages.pages_used pages.pages_needed pages.other_label
    pages.page_named_to_c pages.page_named_before_to_c pages.pages_needed_to_c
    lent.is_laid_out lent.is_label lent.is_open lent.is_valid
    walks.walk walks.behind walks.starts walks.stop walks.words_on walks.is_in_use walks.is_start walks.is_reference
    walks.landing walks.found
    sound.is_blank sound.refs_good sound.is_fill_sound sound.is_used_sound sound.is_page_sound sound.is_sound
    calls.refused calls.inside calls.accepted calls.start calls.with_object calls.allocate calls.look_up calls.load
    calls.may_store calls.store
    collections.hint_page collections.hint_pages collections.take_page collections.with_room collections.top
    collections.put collections.copy_object collections.can_copy collections.keep_page collections.keep_object
    collections.forward collections.forward_roots collections.sweep_reference collections.sweep_references
    collections.is_left collections.size_at_copy collections.sweep_page collections.sweep_queue
    collections.freed_labels collections.freed_heap collections.filler collections.fill_place collections.fill_page
    collections.fill_pages collections.plan_of collections.begun collections.after_hints collections.after_roots
    collections.after_sweep collections.unkept_pages collections.kept_pages collections.filled collections.collection
    collects.is_unhinted collects.pages_unhinted collects.words_unhinted collects.refusal_of_collect
    collects.refused_collect collects.accepted_collect collects.collect
the_rules = 0
