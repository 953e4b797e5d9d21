mod Limits
mod WhatIsRead
mod Beginning
mod Ending
