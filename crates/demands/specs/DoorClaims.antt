-- What a call of each door claims of the values that it was handed and of what is behind the lent ones afterwards, in the words of Operations.antt:
-- of the function in `doors`, and of the export of its name.
use Rattle.doors.specs.contracts.wear_version.{ended as wear_version_ended}
use Rattle.doors.specs.contracts.wear_read.{ended as wear_read_ended}
use Rattle.doors.specs.contracts.wear_step.{ended as wear_step_ended}
use Rattle.doors.specs.contracts.wear_entry.{ended as wear_entry_ended}
use Rattle.doors.specs.contracts.wear_write.{ended as wear_write_ended}
use Rattle.doors.specs.contracts.wear_rewrite.{ended as wear_rewrite_ended}
use Rattle.doors.specs.contracts.wear_page_to_new.{ended as wear_page_to_new_ended}
use Rattle.doors.specs.contracts.wear_page_to_old.{ended as wear_page_to_old_ended}
use Rattle.doors.specs.contracts.wear_post.{ended as wear_post_ended}
use Rattle.doors.specs.contracts.wear_feed.{ended as wear_feed_ended}
use Rattle.pages.specs.Pages.{old, new}
use Rattle.demands.specs.Claims.{Claim}
use Rattle.demands.specs.Operations.{WearVersions, WearReads, WearSteps, WearEntries, WearWrites, WearRewrites, WearTurns, WearPosts, WearFeeds}

abbrev pub door_versions : Claim wear_version_ended
door_versions _ _ r _ = WearVersions r

abbrev pub door_reads : Claim wear_read_ended
door_reads _ (s, (cells, _)) r (_, (after, _)) = WearReads s.now cells.now after.now r

abbrev pub door_steps : Claim wear_step_ended
door_steps _ (s, (start, (cells, _))) r (_, (_, (after, _))) = WearSteps s.now start cells.now after.now r

abbrev pub door_entries : Claim wear_entry_ended
door_entries _ (s, (start, (k, (cells, _)))) r (_, (_, (_, (after, _)))) = WearEntries s.now start k cells.now after.now r

abbrev pub door_writes : Claim wear_write_ended
door_writes _ (cells, (s, (l, (size, _)))) r (_, (_, (out, (after, _)))) = WearWrites cells.now s.now l.now size.now out.now after.now r

abbrev pub door_rewrites : Claim wear_rewrite_ended
door_rewrites _ (s, (l, (size, _))) r (_, (out, (after, _))) = WearRewrites s.now l.now size.now out.now after.now r

abbrev pub door_turns_new : Claim wear_page_to_new_ended
door_turns_new _ (page, (l, (size, _))) r (_, (out, (after, _))) = WearTurns old new page.now l.now size.now out.now after.now r

abbrev pub door_turns_old : Claim wear_page_to_old_ended
door_turns_old _ (page, (l, (size, _))) r (_, (out, (after, _))) = WearTurns new old page.now l.now size.now out.now after.now r

abbrev pub door_posts : Claim wear_post_ended
door_posts _ (page, (s, (k, (l, (size, _))))) r (_, (_, (_, (out, (after, _))))) = WearPosts page.now s.now k l.now size.now out.now after.now r

abbrev pub door_feeds : Claim wear_feed_ended
door_feeds _ (page, (s, (more, (l, (cells, _))))) r (_, (_, (_, (out, (after, _))))) = WearFeeds page.now s.now more l.now cells.now out.now after.now r
