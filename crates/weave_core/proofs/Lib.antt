mod Courses
mod Merges
